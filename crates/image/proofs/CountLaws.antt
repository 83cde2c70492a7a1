-- A count's answers, and what an answer tells of its ruling.
use Rattle.std.proofs.Common.{Some, None, Result, Ok, Err}
use Rattle.std.specs.Result.{IsErrAnd}
use borrow.Author.Tests.{le-leb, lt-leb, leb-true}
use mathlib.Core.Bool.{Bool, true, false, ◌&&◌, and-false}
use mathlib.Core.Path.{◌≡◌, refl}
use mathlib.Core.List.{List}
use Prim.Native.Nat.{ℕ, ◌+◌, ◌*◌, ◌<◌, ◌≤◌}
use native.Mathlib.Omega.{arith}
use lib.ListN.{length}
use lib.Dec.{leb}
use Rattle.rules.specs.declared.ImageRefusal.{ImageRefusal}
use Rattle.rules.specs.declared.ImageRefusal.TheVariants.{ImageShort}
use Rattle.rules.specs.Bits.{field_at, reaches}
use Rattle.rules.specs.Rulings.{refused, granted, ◌or_refuse◌then◌, ◌grants◌}
use Rattle.rules.specs.Image.{Reading, ◌bits_at◌of◌from◌to◌else◌}
use Rattle.bits.specs.Field.{field_of}
use Rattle.bits.proofs.FieldLaws.{missing_tells, value_tells}
use Rattle.image.specs.Answers.{result_of}

-- what an answer tells of the ruling
pub granted_by : {A : Type 0} (m : Reading A) (a : A) → Ok a ≡ result_of m → m ≡ granted a
granted_by (granted b) a e = cc
granted_by (refused r) a e = cc

pub refused_by : {A : Type 0} (m : Reading A) (why : ImageRefusal) → Err why ≡ result_of m → m ≡ refused why
refused_by (granted b) why e = cc
refused_by (refused r) why e = cc

-- A ruling that goes on behind another one: where the code leaves by `?`, its answer is that one's refusal, and else what the rest answers.
pub stops : {A B : Type 0} (m : Reading A) (f : A → Reading B) (why : ImageRefusal) (r : Result B ImageRefusal) → IsErrAnd r (λ x. x ≡ why) → Err why ≡ result_of m → r ≡ result_of (m grants f)
stops m f why (Err x) h e = rw (refused_by m why e, h)
stops m f why (Ok b) h e = absurd h

pub goes_on : {A B : Type 0} (m : Reading A) (f : A → Reading B) (a : A) (r : Result B ImageRefusal) → Ok a ≡ result_of m → r ≡ result_of (f a) → r ≡ result_of (m grants f)
goes_on m f a r e q = rw (granted_by m a e) q

module _ (s : List ℕ) (at n lo hi : ℕ) (why : ImageRefusal) where
  pub count_short : n ≤ 28 → None ≡ field_of s at n → Err ImageShort ≡ result_of (n bits_at at of s from lo to hi else why)
  unfolding ◌bits_at◌of◌from◌to◌else◌
  count_short h e = rw (lt-leb (at + n) (8 * length s) (missing_tells s at n h e))

  module _ (v : ℕ) (e : Some v ≡ field_of s at n) where
    pub count_low : v < lo → Err why ≡ result_of (n bits_at at of s from lo to hi else why)
    unfolding ◌bits_at◌of◌from◌to◌else◌
    count_low l =
        let t = value_tells s at n v e in
        rw (le-leb (at + n) (8 * length s) t.0, ← t.1, lt-leb lo v l)

    pub count_high : hi < v → Err why ≡ result_of (n bits_at at of s from lo to hi else why)
    unfolding ◌bits_at◌of◌from◌to◌else◌
    count_high l =
        let t = value_tells s at n v e in
        rw (le-leb (at + n) (8 * length s) t.0, ← t.1, lt-leb v hi l, and-false)

    pub count_is : lo ≤ v → v ≤ hi → Ok v ≡ result_of (n bits_at at of s from lo to hi else why)
    unfolding ◌bits_at◌of◌from◌to◌else◌
    count_is l h =
        let t = value_tells s at n v e in
        rw (le-leb (at + n) (8 * length s) t.0, ← t.1, le-leb lo v l, le-leb v hi h)

-- a count that is granted is within its limits
within : (t u w : Bool) (why : ImageRefusal) (n v : ℕ) → (t or_refuse ImageShort then (u && w) or_refuse why then granted n) ≡ granted v → (w ≡ true) × (n ≡ v)
within true true true why n v e = (refl, cc)
within true true false why n v e = (cc, cc)
within true false w why n v e = (cc, cc)
within false u w why n v e = (cc, cc)

pub count_most : (s : List ℕ) (at n lo hi : ℕ) (why : ImageRefusal) (v : ℕ) → (n bits_at at of s from lo to hi else why) ≡ granted v → v ≤ hi
unfolding ◌bits_at◌of◌from◌to◌else◌
count_most s at n lo hi why v e =
    let w = within (reaches s (at + n)) (leb lo (field_at s at n)) (leb (field_at s at n) hi) why (field_at s at n) v e in
    omega (arith, leb-true (field_at s at n) hi w.0, w.1)

pub is_most : (s : List ℕ) (at n lo hi : ℕ) (why : ImageRefusal) (v : ℕ) → Ok v ≡ result_of (n bits_at at of s from lo to hi else why) → v ≤ hi
is_most s at n lo hi why v e = count_most s at n lo hi why v (granted_by (n bits_at at of s from lo to hi else why) v e)
