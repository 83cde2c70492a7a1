-- A fault is told exactly of the lines that are bad.
use Rattle.std.specs.Prelude.{if◌then◌else◌, Option, Some, None}
use mathlib.Core.Bool.{Bool, true, false, ◌&&◌, not}
use mathlib.Core.Path.{◌≡◌, refl, sym, subst⁻¹, ◌∙◌}
use mathlib.Core.List.{List, [], ◌∷◌}
use Prim.Native.Nat.{ℕ, suc, ◌+◌, ◌≤◌}
use native.Mathlib.Nat.{add-zero, zero-add}
use native.Mathlib.Omega.{arith}
use lib.Dec.{leb, eqb}
use lib.ListN.{length}
use borrow.Author.Tests.{leb-true, le-leb, eq-eqb, eqb-true}
use Rattle.rules.specs.declared.Event.{Event}
use Rattle.std.specs.Option.{is_some}
use Rattle.rules.specs.Text.{Line, bad, image, event, word_image, call_word, word_head, word_raise, word_load, word_store, word_hit, same, consed, digits, field, fields, paired, paired_or, joined, event_line, event_or, image_or, line_of, pieces, parse, call_of, head_of, device_of, load_of, store_of, hit_of}
use Rattle.rules.proofs.Tests.{and_left, and_right, bool_same}
use Rattle.text.proofs.Same.{same_eq}
use Rattle.reasons.specs.declared.fault.Word.{Word}
use Rattle.reasons.specs.declared.fault.Fault.{Fault}
use Rattle.reasons.specs.declared.fault.Fault.TheVariants.{TooLong, EmptyField, NoNumber, NoDigit, OddDigits}
use Rattle.reasons.specs.Faults.{◌or_tell◌then◌, word_of, least, most, why_field, why_count, ◌before◌, why_fields, why_event, why_image, why_line, last_byte, or_return, why_bad}

abbrev pub is_bad : Line → Bool
is_bad bad = true
is_bad (image bytes) = false
is_bad (event e) = false

-- an image
image_exactly : (text : List ℕ) → is_some (why_image text) ≡ is_bad (image_or (paired_or (digits text)))
unfolding why_image
image_exactly text = go (digits text)
  where
    there : (o : Option (List ℕ)) → is_some (is_some o or_tell OddDigits then None) ≡ is_bad (image_or o)
    there None = refl
    there (Some bytes) = refl

    go : (o : Option (List ℕ)) → is_some (is_some o or_tell NoDigit then is_some (paired_or o) or_tell OddDigits then None) ≡ is_bad (image_or (paired_or o))
    go None = refl
    go (Some ds) = there (paired ds)

-- n fields are as many as the word takes
abbrev takes : Word → ℕ → Bool
takes word n = leb (least word) n && leb n (most word)

-- n fields and these, of which one may be no number, are not what the word takes
abbrev misfit : Word → ℕ → Option (List ℕ) → Bool
misfit word n None = true
misfit word n (Some ns) = not (takes word (n + length ns))

count_exactly : (word : Word) (n : ℕ) → is_some (why_count word n) ≡ not (takes word n)
unfolding why_count
count_exactly word n = go (leb (least word) n) (leb n (most word))
  where
    go : (s t : Bool) → is_some (s or_tell Fault.TooFew word then t or_tell Fault.TooMany word then None) ≡ not (s && t)
    go true true = refl
    go true false = refl
    go false t = refl

-- no field is empty and a number
empty_none : (text : List ℕ) → leb 1 (length text) ≡ false → field text ≡ None
unfolding field
empty_none text e = rw e

field_exactly : (k : ℕ) (text : List ℕ) (rest : Option Fault) → is_some (why_field k text before rest) ≡ (if is_some (field text) then is_some rest else true)
unfolding why_field
field_exactly k text rest = go (leb 1 (length text)) refl (field text) refl
  where
    go : (t : Bool) → leb 1 (length text) ≡ t → (o : Option ℕ) → field text ≡ o
        → is_some ((t or_tell EmptyField k then is_some o or_tell NoNumber k then None) before rest) ≡ (if is_some o then is_some rest else true)
    go true e None f = refl
    go true e (Some v) f = refl
    go false e None f = refl
    go false e (Some v) f = cc (empty_none text e)

fields_exactly : (word : Word) (n : ℕ) (texts : List (List ℕ)) → is_some (why_fields word n texts) ≡ misfit word n (fields texts)
unfolding why_fields fields
fields_exactly word n [] = rw (add-zero n) (count_exactly word n)
fields_exactly word n (text ∷ texts) =
    field_exactly _ text (why_fields word (suc n) texts) ∙ go (field text) (fields texts) (fields_exactly word (suc n) texts)
  where
    go : (o : Option ℕ) (p : Option (List ℕ)) → is_some (why_fields word (suc n) texts) ≡ misfit word (suc n) p
        → (if is_some o then is_some (why_fields word (suc n) texts) else true) ≡ misfit word n (consed o p)
    go None p h = refl
    go (Some v) None h = h
    go (Some v) (Some ns) h =
        let e : suc n + length ns ≡ n + suc (length ns) = omega arith in
        rw e at h

-- an event whose first word is none, and whose fields are these
abbrev unfit : Option Word → Option (List ℕ) → Bool
unfit None o = true
unfit (Some word) o = misfit word 0 o

module _ (ns : List ℕ) where
  Exact : List ℕ → Type 0
  Exact word = is_bad (event_line word ns) ≡ unfit (word_of word) (Some ns)

  fits : (t : Bool) (e : Event) → is_bad (if t then event e else bad) ≡ not t
  fits true e = refl
  fits false e = refl

  -- as many as k fields are k at least and k at most
  as_many : (k : ℕ) → eqb (length ns) k ≡ (leb k (length ns) && leb (length ns) k)
  as_many k = bool_same _ _ there back
    where
      there : eqb (length ns) k ≡ true → (leb k (length ns) && leb (length ns) k) ≡ true
      there e =
          let q : length ns ≡ k = eqb-true _ _ e in
          let l : k ≤ length ns = omega arith in
          let m : length ns ≤ k = omega arith in
          rw (le-leb k (length ns) l, le-leb (length ns) k m)

      back : (leb k (length ns) && leb (length ns) k) ≡ true → eqb (length ns) k ≡ true
      back e =
          let l : k ≤ length ns = leb-true _ _ (and_left _ _ e) in
          let m : length ns ≤ k = leb-true _ _ (and_right (leb k (length ns)) _ e) in
          eq-eqb (length ns) k (omega arith)

  call_exactly : Exact call_word
  unfolding Exact event_line word_of same
  call_exactly = rw zero-add (fits (leb 4 (length ns) && leb (length ns) 9) (Event.Call (call_of ns)))

  head_exactly : Exact word_head
  unfolding Exact event_line word_of same
  head_exactly = rw (zero-add, ← as_many 4) (fits (eqb (length ns) 4) (Event.Head (head_of ns)))

  raise_exactly : Exact word_raise
  unfolding Exact event_line word_of same
  raise_exactly = rw (zero-add, ← as_many 2) (fits (eqb (length ns) 2) (Event.Raise (device_of ns)))

  load_exactly : Exact word_load
  unfolding Exact event_line word_of same
  load_exactly = rw (zero-add, ← as_many 2) (fits (eqb (length ns) 2) (Event.Load (load_of ns)))

  store_exactly : Exact word_store
  unfolding Exact event_line word_of same
  store_exactly = rw (zero-add, ← as_many 3) (fits (eqb (length ns) 3) (Event.Store (store_of ns)))

  hit_exactly : Exact word_hit
  unfolding Exact event_line word_of same
  hit_exactly = rw (zero-add, ← as_many 6) (fits (eqb (length ns) 6) (Event.Hit (hit_of ns)))

named_exactly : (word ns : List ℕ) → Exact ns word
unfolding Exact event_line word_of
named_exactly word ns =
    go (same word call_word) refl (same word word_head) refl (same word word_raise) refl (same word word_load) refl (same word word_store) refl
    (same word word_hit) refl
  where
    go : (a : Bool) → same word call_word ≡ a → (b : Bool) → same word word_head ≡ b → (c : Bool) → same word word_raise ≡ c
        → (d : Bool) → same word word_load ≡ d → (e : Bool) → same word word_store ≡ e
        → (f : Bool) → same word word_hit ≡ f → Exact ns word
    go true p b q c r d s e t f u = subst⁻¹ (Exact ns) (same_eq word _ p) (call_exactly ns)
    go false p true q c r d s e t f u = subst⁻¹ (Exact ns) (same_eq word _ q) (head_exactly ns)
    go false p false q true r d s e t f u = subst⁻¹ (Exact ns) (same_eq word _ r) (raise_exactly ns)
    go false p false q false r true s e t f u = subst⁻¹ (Exact ns) (same_eq word _ s) (load_exactly ns)
    go false p false q false r false s true t f u = subst⁻¹ (Exact ns) (same_eq word _ t) (store_exactly ns)
    go false p false q false r false s false t true u = subst⁻¹ (Exact ns) (same_eq word _ u) (hit_exactly ns)
    go false p false q false r false s false t false u = rw (p, q, r, s, t, u)

event_exactly : (word : List ℕ) (texts : List (List ℕ)) → is_some (why_event (word_of word) texts) ≡ is_bad (event_or word (fields texts))
unfolding Exact
event_exactly word texts = reasons (word_of word) ∙ sym (lines (fields texts))
  where
    reasons : (o : Option Word) → is_some (why_event o texts) ≡ unfit o (fields texts)
    reasons None = refl
    reasons (Some w) = fields_exactly w 0 texts

    unread : (o : Option Word) → true ≡ unfit o None
    unread None = refl
    unread (Some w) = refl

    lines : (o : Option (List ℕ)) → is_bad (event_or word o) ≡ unfit (word_of word) o
    lines None = unread (word_of word)
    lines (Some ns) = named_exactly word ns

line_exactly : (ps : List (List ℕ)) → is_some (why_line ps) ≡ is_bad (line_of ps)
unfolding why_line
line_exactly [] = refl
line_exactly (word ∷ texts) = go (same word word_image)
  where
    go : (t : Bool) → is_some (if t then why_image (joined texts) else why_event (word_of word) texts)
        ≡ is_bad (if t then image_or (paired_or (digits (joined texts))) else event_or word (fields texts))
    go true = image_exactly (joined texts)
    go false = event_exactly word texts

-- the theorem: a line has a fault exactly where the rules say `bad`
pub why_exactly_bad : (line : List ℕ) → is_some (why_bad line) ≡ is_bad (parse line)
unfolding why_bad parse
why_exactly_bad line = go (leb (length line) 2048)
  where
    still : (t : Bool) (o : Option Fault) → is_some (or_return t o) ≡ is_some o
    still t None = refl
    still t (Some fault) = refl

    go : (t : Bool) → is_some (t or_tell TooLong then or_return (eqb (last_byte line) 0x0d) (why_line (pieces [] line))) ≡ is_bad (if t then line_of (pieces [] line) else bad)
    go true = still (eqb (last_byte line) 0x0d) (why_line (pieces [] line)) ∙ line_exactly (pieces [] line)
    go false = refl
