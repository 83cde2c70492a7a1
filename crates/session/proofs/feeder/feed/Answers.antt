-- `session::feeder::feed` meets its contract: each turn of its loop is a byte of the definition.
use native.Mathlib.Omega.{arith}
use mathlib.Core.Logic.{inl, inr}
use mathlib.Core.Path.{◌≡◌, refl}
use mathlib.Core.List.{[]}
use lib.ListN.{take}
use Rattle.session.proofs.Seated.{seats, asked_all, event_answered, event_memory, event_seated, asked_there}
use Rattle.session.proofs.Serving.{Sits, as_told, put_in, sits_still, sits_down}
use Rattle.session.proofs.FeedLaws.{at as start, feeding_start, room_start, turn_push, turn_drop, turn_reply, turns_done, feeds_as}
use Rattle.session.proofs.Answers.{answers_said, answers_loaded}
use Rattle.calls.proofs.OwnLaws.{own_below}
use Rattle.host.proofs.DoorLaws.{right_keeps}
use Rattle.session.proofs.feeder.feed.Goals as goal
use Rattle.session.proofs.feeder.feed.Goals.{then-held-lt-LINE, else-held-lt-LINE, then-h-g, else-h-g, in-Said, in-Image, in-Guest, else-loop-i-test, then-loop-i-test+then-out-at-lt-REPLY}

pub loop-i-init : goal.loop-i-init
loop-i-init c = (
  refl,
  (
    room_start _ _ _ _ _ _ c.min-held.ensures (omega arith),
    seats _ _ _ 0 (omega arith) (omega arith) c.door_of-door.ensures,
    put_in _ _ _ _ _ _ _ _ _ _ _ (feeding_start _ _ _ _ _ _),
  ),
)

pub loop-i-preserved-then-b-ne10 : goal.loop-i-preserved-then-b-ne10
loop-i-preserved-then-b-ne10 c =
    let l = c.loop-i in
    elim c.if-held-lt-LINE.branch [
      | then-held-lt-LINE w ↦ rw (w.line-is, w.held-is) (let t = turn_push _ _ _ _ _ _ _ _ _ _ _ l.invariant.1.0 l.invariant.1.2 c.loop-i-test.true c.if-out-at-lt-REPLY.false _ refl c.if-b-ne10.true w.if-held-lt-LINE.true in (l.invariant.0, (t.0, l.invariant.1.1, t.1)))
      | else-held-lt-LINE w ↦ rw (w.line-is, w.held-is) (let t = turn_drop _ _ _ _ _ _ _ _ _ _ _ l.invariant.1.0 l.invariant.1.2 c.loop-i-test.true c.if-out-at-lt-REPLY.false _ refl c.if-b-ne10.true w.if-held-lt-LINE.false in (l.invariant.0, (t.0, l.invariant.1.1, t.1)))
    ]

pub ask-requires : goal.ask-requires
ask-requires c = right_keeps _ _ _ c.loop-i.invariant.1.1.as_is

pub offset_bounds-tables-g-then-h-g : goal.offset_bounds-tables-g-then-h-g
offset_bounds-tables-g-then-h-g c =
    let l = c.loop-i in
    omega (arith, asked_there _ l.mem (take l.held l.line) _ _ _ _ l.invariant.1.1 _ _ _ c.ask.ensures c.in-Guest.is)

pub bounds-tables-g-then-h-g : goal.bounds-tables-g-then-h-g
bounds-tables-g-then-h-g c =
    let l = c.loop-i in
    asked_there _ l.mem (take l.held l.line) _ _ _ _ l.invariant.1.1 _ _ _ c.ask.ensures c.in-Guest.is

pub cpu_of-c-requires : goal.cpu_of-c-requires
cpu_of-c-requires c =
    let l = c.loop-i in
    elim c.if-h-g.branch [
      | then-h-g v ↦ (sits_down _ _ _ _ _ _ _ _ _ _ _ _ _ l.invariant.1.1 l.invariant.1.2 _ _ _ c.ask.ensures c.in-Guest.is _ _ _ v.tables-is v.g-is v.guest-is).sound.sources
      | else-h-g v ↦ (sits_still _ _ _ _ _ _ _ _ _ _ _ _ _ l.invariant.1.1 l.invariant.1.2 _ _ _ c.ask.ensures c.in-Guest.is _ _ _ v.if-h-g.false v.tables-is v.g-is v.guest-is).sound.sources
    ]

pub offset_bounds-guest-c : goal.offset_bounds-guest-c
offset_bounds-guest-c c = omega (arith, own_below _ _ _ c.cpu_of-c.ensures)

pub bounds-guest-c : goal.bounds-guest-c
bounds-guest-c c = omega (arith, own_below _ _ _ c.cpu_of-c.ensures)

pub plant_event-done-requires-clause-sound : goal.plant_event-done-requires-clause-sound
plant_event-done-requires-clause-sound c =
    let l = c.loop-i in
    elim c.if-h-g.branch [
      | then-h-g v ↦ (sits_down _ _ _ _ _ _ _ _ _ _ _ _ _ l.invariant.1.1 l.invariant.1.2 _ _ _ c.ask.ensures c.in-Guest.is _ _ _ v.tables-is v.g-is v.guest-is).sound
      | else-h-g v ↦ (sits_still _ _ _ _ _ _ _ _ _ _ _ _ _ l.invariant.1.1 l.invariant.1.2 _ _ _ c.ask.ensures c.in-Guest.is _ _ _ v.if-h-g.false v.tables-is v.g-is v.guest-is).sound
    ]

pub change_plant-requires : goal.change_plant-requires
change_plant-requires c =
    let l = c.loop-i in
    elim c.if-h-g.branch [
      | then-h-g v ↦ (sits_down _ _ _ _ _ _ _ _ _ _ _ _ _ l.invariant.1.1 l.invariant.1.2 _ _ _ c.ask.ensures c.in-Guest.is _ _ _ v.tables-is v.g-is v.guest-is).sound.cpus
      | else-h-g v ↦ (sits_still _ _ _ _ _ _ _ _ _ _ _ _ _ l.invariant.1.1 l.invariant.1.2 _ _ _ c.ask.ensures c.in-Guest.is _ _ _ v.if-h-g.false v.tables-is v.g-is v.guest-is).sound.cpus
    ]

pub loop-i-preserved : goal.loop-i-preserved
loop-i-preserved c =
    let l = c.loop-i in
    let line = take l.held l.line in
    elim c.match-ask.branch [
      | in-Said w ↦
          let s = asked_all _ _ _ _ _ _ l.invariant.1.1 _ _ _ c.ask.ensures w.in-Said.is in
          let t = turn_reply _ _ _ _ _ _ _ _ _ _ _ l.invariant.1.0 l.invariant.1.2 c.loop-i-test.true c.if-out-at-lt-REPLY.false _ refl c.if-b-ne10.false _ _ _ refl (answers_said _ l.mem line _ s) _ _ w.put_reply-at.ensures in
          (l.invariant.0, rw w.held-is (as_told _ _ _ _ _ _ _ _ _ _ _ _ _ _ _ _ _ _ _ _ _ w.mem-is w.out-is w.tables-is w.door-is w.g-is w.guest-is w.at-is (t.0, l.invariant.1.1, t.1)))
      | in-Image w ↦
          let s = asked_all _ _ _ _ _ _ l.invariant.1.1 _ _ _ c.ask.ensures w.in-Image.is in
          let t = turn_reply _ _ _ _ _ _ _ _ _ _ _ l.invariant.1.0 l.invariant.1.2 c.loop-i-test.true c.if-out-at-lt-REPLY.false _ refl c.if-b-ne10.false _ _ _ refl (answers_loaded _ l.mem line _ s w.load_line-loaded.ensures) _ _ w.put_reply-at-in-Image.ensures in (
            l.invariant.0,
            rw w.held-is (as_told _ _ _ _ _ _ _ _ _ _ _ _ _ _ _ _ _ _ _ _ _ w.mem-is w.out-is w.tables-is w.door-is w.g-is w.guest-is w.at-is
                (t.0, seats _ _ _ 0 (omega arith) (omega arith) w.door_of-door-in-Image.ensures, put_in _ _ _ _ _ _ _ _ _ _ _ t.1)),
          )
      | in-Guest w ↦
          let sits : Sits (start c.args.feeder.tables c.args.mem.now c.args.feeder.line c.min-held.result []) c.args.piece.now c.args.out.now l.mem l.line l.held l.door l.at l.i l.out w.in-Guest.event w.if-h-g.tables w.if-h-g.g w.if-h-g.guest = elim w.if-h-g.branch [
            | then-h-g v ↦ (sits_down _ _ _ _ _ _ _ _ _ _ _ _ _ l.invariant.1.1 l.invariant.1.2 _ _ _ c.ask.ensures w.in-Guest.is _ _ _ v.tables-is v.g-is v.guest-is)
            | else-h-g v ↦ (sits_still _ _ _ _ _ _ _ _ _ _ _ _ _ l.invariant.1.1 l.invariant.1.2 _ _ _ c.ask.ensures w.in-Guest.is _ _ _ v.if-h-g.false v.tables-is v.g-is v.guest-is)
          ] in
          let q = w.change_plant.ensures in
          let d = w.plant_event-done.ensures in
          let m = event_memory _ l.mem line _ _ _ _ sits.seated _ sits.asks _ _ d _ q in
          let t = turn_reply _ _ _ _ _ _ _ _ _ _ _ l.invariant.1.0 sits.feeding c.loop-i-test.true c.if-out-at-lt-REPLY.false _ refl c.if-b-ne10.false _ _ _ m (event_answered _ l.mem line _ _ _ _ sits.seated _ sits.asks _ _ d _ q) _ _ w.put_reply-at-in-Guest.ensures in
          (l.invariant.0, rw w.held-is (as_told _ _ _ _ _ _ _ _ _ _ _ _ _ _ _ _ _ _ _ _ _ w.mem-is w.out-is w.tables-is w.door-is w.g-is w.guest-is w.at-is (t.0, event_seated _ l.mem line _ _ _ _ sits.seated _ sits.asks _ _ d _ q, t.1)))
    ]

pub returns : goal.returns
returns c =
    let l = c.loop-i in
    let taken : c.loop-i-test.taken ≡ l.i = elim c.loop-i-test.branch [ else-loop-i-test w ↦ omega (arith, w.taken-is) | then-loop-i-test+then-out-at-lt-REPLY w ↦ w.taken-is ] in
    feeds_as _ _ _ _ _ _ _ _ c.min-held.ensures
    (turns_done _ _ _ _ _ _ _ _ _ _ _ l.invariant.1.0 l.invariant.1.2
    (elim c.loop-i-test.branch [ else-loop-i-test w ↦ inl w.loop-i-test.false | then-loop-i-test+then-out-at-lt-REPLY w ↦ inr w.if-out-at-lt-REPLY.true ]) _ (rw (l.invariant.1.1.own, taken) refl))
