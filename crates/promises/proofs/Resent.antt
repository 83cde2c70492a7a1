-- Promise: a list that was left with EWOULDBLOCK and is sent again.
use mathlib.Core.Path.{◌≡◌, refl, sym, ap, ◌∙◌, subst}
use mathlib.Core.Bool.{Bool, true, false, ◌&&◌}
use mathlib.Core.List.{List}
use Prim.Native.Nat.{ℕ, ◌+◌, ◌*◌, ◌<◌}
use native.Mathlib.Omega.{arith}
use lib.Dec.{ltb}
use lib.ListN.{length}
use borrow.Author.Tests.{leb-true, le-leb, ltb-true, eq-eqb, not-true}
use Rattle.rules.specs.declared.Answer.TheVariants.{Done, Refused}
use Rattle.rules.specs.declared.Call.{Call}
use Rattle.rules.specs.declared.Event.{Event}
use Rattle.rules.specs.declared.Extents.{Extents}
use Rattle.rules.specs.declared.Refusal.TheVariants.{NoCaller, EWOULDBLOCK}
use Rattle.rules.specs.declared.Tables.{Tables}
use Rattle.rules.specs.Kept.{plant_at, extents_of, present}
use Rattle.rules.specs.Real.{Sight, valid}
use Rattle.rules.specs.Statuses.{status_of}
use Rattle.rules.specs.Rulings.{Outcome}
use Rattle.rules.specs.Mondo.{listed_cpu, listed_cpus, is_caller, is_stranger}
use Rattle.rules.specs.Host.{HostOutcome, owner_of, host_event}
use Rattle.rules.proofs.Listed.{Each, each_at, listed_length, listed_at, listed_each}
use Rattle.rules.proofs.Scan.{none_at, none_of}
use Rattle.rules.proofs.Tests.{and_right}
use Rattle.rules.specs.Tables.{plant_keeps}
use Rattle.memory.proofs.Numbers.{bytes_same}
use Rattle.memory.proofs.Reached.{valid_part}
use Rattle.memory.proofs.Stores.{bytes_length}
use Rattle.records.proofs.SoundLaws.{plant_cpus, plant_rings}
use Rattle.tables.proofs.SoundTables.{plant_keeps_lem}
use Rattle.kept.proofs.Settled.{event_settled}
use Rattle.kept.proofs.Steady.{Steady, steady_further, event_steady}
use Rattle.promises.specs.Words.{Passes, tables_after, memory_after}
use Rattle.promises.specs.Machine.{Machine, did, moved, all_written, machine_of}
use Rattle.promises.specs.Resent.{MondoCall, list_of, data_of, times, mondo_ring, ring_base, ring_size, LieApart, Got, GotFrom, ReadyAgain, GotInAll}
use Rattle.promises.specs.Promises.{SentAgain}
use Rattle.promises.proofs.AloneSteps.{own_step}
use Rattle.promises.proofs.MondoCalls.{Passed, sends, passed_sends, left_passed, differ}
use Rattle.promises.proofs.Passing.{passes_next, passes_after, steady_after}
use Rattle.promises.proofs.RingGains.{gets_got}
use Rattle.promises.proofs.SendLists.{sending}
use Rattle.promises.proofs.SendState.{Setting, Stands, Gain, Ends, listed_same}

-- a send of a host that passes, once its tests are passed
module _ (tables : Tables) (memory : List ℕ) (p : Passes tables memory) (c : Call) (there : c.guest < tables.guests) (apart : LieApart (plant_at tables c.guest) c) where
  abbrev m : Machine
  m = machine_of tables memory c.guest

  abbrev v : ℕ → ℕ → Bool
  v = valid (extents_of tables c.guest)

  abbrev list : List ℕ
  list = list_of m.sight c

  right : plant_keeps v m.plant ≡ true
  right = plant_keeps_lem tables p.keep c.guest there

  counted : length list ≡ c.arg0
  counted = listed_length m.sight.byte c.arg1 c.arg0

  abbrev setting : Setting
  setting = record {
    v = v;
    part = valid_part (extents_of tables c.guest);
    cpus = m.plant.cpus;
    few = plant_cpus v m.plant right;
    base = λ x. ring_base (mondo_ring m.plant x);
    size = λ x. ring_size (mondo_ring m.plant x);
    rings = λ x y h k d. apart.ring_ring y x k h (λ e. d (sym e));
    packet = data_of m.sight c;
    full = bytes_length m.sight.byte c.arg2 64;
  }

  stands : Passed m c → Stands setting m.plant m.sight list c.arg1
  stands q = record {
    seen = refl;
    sound = λ x h. plant_rings v m.plant right x 0 h (omega arith);
    based = λ x h. refl;
    sized = λ x h. refl;
    own = rw counted (and_right (v c.arg2 64) (v c.arg1 (2 * c.arg0)) q.ranges);
    apart = rw counted apart.list_ring;
    reads = rw counted refl;
    known = listed_each m.sight.byte c.arg1 (λ x. is_stranger m.plant.cpus x ≡ false) c.arg0 (λ i h. none_at (λ i. is_stranger m.plant.cpus (listed_cpu m.sight.byte c.arg1 i)) c.arg0 i (not-true _ q.known) h);
  }

  ends : Passed m c → Ends setting m.plant m.sight list c.arg1 (sends m c)
  ends q = sending setting list m.plant m.sight c.arg1 (stands q)

  gained : Passed m c → (cpu : ℕ) → cpu < m.plant.cpus → (a : Gain setting cpu m.plant m.sight list c.arg1 (sends m c))
      → Got (mondo_ring m.plant cpu) (mondo_ring (sends m c).plant cpu) (all_written m.sight (sends m c).writes) (data_of m.sight c) a.number
  gained q cpu h a = gets_got v (mondo_ring m.plant cpu) (mondo_ring (sends m c).plant cpu) m.sight _ _ _ ((stands q).sound cpu h) a.gets

-- the two sends
module _ (tables : Tables) (memory : List ℕ) (c : Call) (events : List Event) (p : Passes tables memory) (f : MondoCall c) (e : (host_event tables memory (Event.Call c)).answer ≡ Refused EWOULDBLOCK) where
  abbrev g : ℕ
  g = c.guest

  abbrev first : Machine
  first = machine_of tables memory g

  abbrev one : HostOutcome
  one = host_event tables memory (Event.Call c)

  -- the guest is there: 103 is another refusal
  there : g < tables.guests
  unfolding status_of owner_of
  there = go (ltb g tables.guests) refl
    where
      go : (t : Bool) → ltb g tables.guests ≡ t → g < tables.guests
      go true q = ltb-true g tables.guests q
      go false q = absurd (differ NoCaller refl (rw q at (rw (event_settled tables memory (Event.Call c) p.keep p.long) at e)))

  step : (one.answer ≡ (did first (Event.Call c)).answer) × (machine_of one.tables one.memory g ≡ moved first (Event.Call c))
  unfolding owner_of
  step = own_step tables memory (Event.Call c) p.keep p.long g there (eq-eqb g g refl)

  passed : Passed first c
  passed = left_passed first c f (sym step.0 ∙ e)

  abbrev sent : Machine
  sent = machine_of one.tables one.memory g

  -- memory as the first send left it
  abbrev left : Sight
  left = all_written first.sight (sends first c).writes

  sent_is : sent ≡ record { plant = (sends first c).plant; sight = left }
  sent_is = step.1 ∙ ap (λ (o : Outcome). record { plant = o.plant; sight = all_written first.sight o.writes }) (passed_sends first c f passed)

  -- the host before the second send
  abbrev tables₂ : Tables
  tables₂ = tables_after one.tables one.memory events

  abbrev memory₂ : List ℕ
  memory₂ = memory_after one.tables one.memory events

  abbrev second : Machine
  second = machine_of tables₂ memory₂ g

  passes₂ : Passes tables₂ memory₂
  passes₂ = passes_after events one.tables one.memory (passes_next tables memory p (Event.Call c))

  steady : Steady tables tables₂
  steady = steady_further tables one.tables tables₂ (event_steady tables memory (Event.Call c) p.keep p.long).0 (steady_after events one.tables one.memory (passes_next tables memory p (Event.Call c)))

  there₂ : g < tables₂.guests
  there₂ = rw steady.guests there

  abbrev two : HostOutcome
  two = host_event tables₂ memory₂ (Event.Call c)

  module _ (r : ReadyAgain c first sent second) where
    abbrev n : ℕ
    n = c.arg0

    came : Ends (setting tables memory p c there r.apart) first.plant first.sight (list_of first.sight c) c.arg1 (sends first c)
    came = ends tables memory p c there r.apart passed

    -- the list that is sent again is the one that was left
    list_again : list_of second.sight c ≡ listed_cpus left.byte c.arg1 n
    list_again = listed_same second.sight.byte sent.sight.byte c.arg1 n r.list_kept ∙ ap (λ (m : Machine). listed_cpus m.sight.byte c.arg1 n) sent_is

    -- and so is the data, which is where neither a mark nor an entry goes
    data_again : data_of second.sight c ≡ data_of first.sight c
    data_again = bytes_same second.sight.byte first.sight.byte c.arg2 c.arg2 64 (λ k h.
        r.data_kept k h ∙ ap (λ (m : Machine). m.sight.byte (c.arg2 + k)) sent_is ∙ came.others (c.arg2 + k) (
          rw (counted tables memory p c there r.apart) (λ a b. r.apart.list_data (c.arg2 + k) a b (omega arith) (omega arith)),
          λ x l a b. r.apart.data_ring x l (c.arg2 + k) (omega arith) (omega arith) a b,
        ))

    -- what holds of each entry, and of 0xffff, holds of each again
    entries_again : (P : ℕ → Type 0) → P 0xffff → ((i : ℕ) → i < n → P (listed_cpu first.sight.byte c.arg1 i)) → (i : ℕ) → i < n → P (listed_cpu second.sight.byte c.arg1 i)
    entries_again P marked each i h =
        let left_each : Each P (listed_cpus left.byte c.arg1 n) = rw (counted tables memory p c there r.apart) at (came.entries P marked (listed_each first.sight.byte c.arg1 P n each)) in
        let again : Each P (list_of second.sight c) = rw list_again left_each in
        rw (listed_at second.sight.byte c.arg1 n i h) at (each_at P (list_of second.sight c) i again (rw (listed_length second.sight.byte c.arg1 n) h))

    passed₂ : Passed second c
    passed₂ = record {
      caller = rw (steady.cpus g) passed.caller;
      core = le-leb 1 second.plant.versions.core (omega (arith, leb-true 1 first.plant.versions.core passed.core, steady.core g));
      count = passed.count;
      aligned = passed.aligned;
      ranges = ap (λ (x : Extents). valid (present x) c.arg2 64 && valid (present x) c.arg1 (2 * n)) (steady.extents g) ∙ passed.ranges;
      others = rw (none_of (λ i. is_caller c.cpu (listed_cpu second.sight.byte c.arg1 i)) n (entries_again (λ x. is_caller c.cpu x ≡ false) refl (λ i h. none_at (λ i. is_caller c.cpu (listed_cpu first.sight.byte c.arg1 i)) n i (not-true _ passed.others) h))) refl;
      known = rw (steady.cpus g, none_of (λ i. is_stranger first.plant.cpus (listed_cpu second.sight.byte c.arg1 i)) n (entries_again (λ x. is_stranger first.plant.cpus x ≡ false) refl (λ i h. none_at (λ i. is_stranger first.plant.cpus (listed_cpu first.sight.byte c.arg1 i)) n i (not-true _ passed.known) h))) refl;
    }

    came₂ : Ends (setting tables₂ memory₂ passes₂ c there₂ r.apart_again) second.plant second.sight (list_of second.sight c) c.arg1 (sends second c)
    came₂ = ends tables₂ memory₂ passes₂ c there₂ r.apart_again passed₂

    -- nothing is left
    all : (sends second c).all ≡ true
    all = came₂.enough r.room

    step₂ : (two.answer ≡ (did second (Event.Call c)).answer) × (machine_of two.tables two.memory g ≡ moved second (Event.Call c))
    unfolding owner_of
    step₂ = own_step tables₂ memory₂ (Event.Call c) passes₂.keep passes₂.long g there₂ (eq-eqb g g refl)

    answered : two.answer ≡ Done
    answered = step₂.0 ∙ ap (λ (o : Outcome). o.answer) (passed_sends second c f passed₂) ∙ rw all refl

    abbrev resent : Machine
    resent = machine_of two.tables two.memory g

    resent_is : resent ≡ record { plant = (sends second c).plant; sight = all_written second.sight (sends second c).writes }
    resent_is = step₂.1 ∙ ap (λ (o : Outcome). record { plant = o.plant; sight = all_written second.sight o.writes }) (passed_sends second c f passed₂)

    got : (cpu : ℕ) → cpu < first.plant.cpus → GotInAll c cpu first sent second resent
    got cpu h =
        let h₂ : cpu < second.plant.cpus = rw (steady.cpus g) h in
        let a = came.gains cpu h in
        let b = came₂.gains cpu h₂ in
        let in_list : times cpu (list_of second.sight c) ≡ times cpu (listed_cpus left.byte c.arg1 n) = ap (times cpu) list_again in
        record {
          once = a.number;
          again = b.number;
          got_once = subst (λ (m : Machine). GotFrom first m cpu (data_of first.sight c) a.number) (sym sent_is) (gained tables memory p c there r.apart passed cpu h a);
          got_again = subst (λ (m : Machine). GotFrom second m cpu (data_of first.sight c) b.number) (sym resent_is)
              (subst (λ (packet : List ℕ). Got (mondo_ring second.plant cpu) (mondo_ring (sends second c).plant cpu) (all_written second.sight (sends second c).writes) packet b.number) data_again
              (gained tables₂ memory₂ passes₂ c there₂ r.apart_again passed₂ cpu h₂ b));
          in_all = omega (arith, rw (counted tables memory p c there r.apart) at a.rest, b.whole all, in_list);
        }

pub sent_again : SentAgain
sent_again tables memory c events p f e r = (answered tables memory c events p f e r, got tables memory c events p f e r)
