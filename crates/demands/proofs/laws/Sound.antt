-- A record is sound by the code's test exactly where it is by the papers' list.
use Rattle.std.specs.Prelude.{◌≡◌, refl, true, ◌↔◌, List, [], ◌∷◌, eqb}
use Rattle.std.proofs.Common.{eqb-true, eq-eqb}
use Rattle.whole.specs.laws.Test.{both, joined}
use Rattle.plane.specs.declared.point.Point.{Point}
use Rattle.block.specs.declared.Block.{Block}
use Rattle.block.specs.Questions.{load_no}
use Rattle.block.specs.Chain.{end_after, root_of}
use Rattle.block.specs.computed.Chain.{chain_accepted}
use Rattle.queue.specs.declared.Waiting.{Waiting}
use Rattle.queue.specs.computed.Queue.{roots_right}
use Rattle.settings.specs.declared.Settings.{Settings}
use Rattle.settings.specs.Settings.{feed_unit, capacity_of}
use Rattle.machine.specs.declared.Machine.{Machine}
use Rattle.machine.specs.Machine.{to_do}
use Rattle.machine.specs.computed.Machine.{sound_of}
use Rattle.machine.specs.laws.Right.{sound, sound_test}
use Rattle.demands.specs.Sound.{AcceptedInTurn, RootsKept, Sound}
use Rattle.demands.proofs.laws.Asked.{passed}
use Rattle.demands.proofs.laws.Bench.{bench_is}
use Rattle.demands.proofs.laws.Block.{nothing_iff}
use Rattle.demands.proofs.laws.Load.{block_verdict}

-- ---- those that wait

accepted_is : (s : Settings) (start : Point) (l : List Block)
    → (chain_accepted (capacity_of s) s.travel start l ≡ true) ↔ AcceptedInTurn s start l
unfolding chain_accepted
accepted_is s start [] = (λ e. tt, λ a. refl)
accepted_is s start (b ∷ l) =
    let first = passed (block_verdict s start b feed_unit true (λ e. tt, λ u. refl)) in
    let later = accepted_is s (end_after start b) l in (
      λ e. let r = both {a = eqb (load_no (capacity_of s) s.travel true start b) 0} e in (first.0 (eqb-true _ 0 r.0), later.0 r.1),
      λ a. joined (eq-eqb _ 0 (first.1 a.0)) (later.1 a.1),
    )

roots_are : (start : Point) (l : List Waiting) → (roots_right start l ≡ true) ↔ RootsKept start l
unfolding roots_right
roots_are start [] = (λ e. tt, λ k. refl)
roots_are start (w ∷ l) =
    let later = roots_are (end_after start w.block) l in (
      λ e. let r = both {a = eqb w.root (root_of start w.block)} e in (eqb-true _ _ r.0, later.0 r.1),
      λ k. joined (eq-eqb _ _ k.0) (later.1 k.1),
    )

-- ---- the record

pub sound_is : (m : Machine) → (sound_of m ≡ true) ↔ Sound m
unfolding to_do
sound_is m = (
  λ e.
      let i = sound m e in
      let q = i.right.queue in
      record {
        bench = (bench_is m.bench).0 i.bench;
        most = q.most;
        waiting = (accepted_is m.bench.settings _ _).0 q.accepted;
        idle = λ none. i.right.none ((nothing_iff m.bench.work).1 none);
        figure = i.right.left_is;
        root = i.right.root_is;
        roots = (roots_are _ _).0 q.roots;
        places = q.sixteen;
      },
  λ s.
      sound_test m (record {
        bench = (bench_is m.bench).1 s.bench;
        right = record {
          root_is = s.root;
          none = λ idle. s.idle ((nothing_iff m.bench.work).0 idle);
          queue = record {
            sixteen = s.places;
            most = s.most;
            accepted = (accepted_is m.bench.settings _ _).1 s.waiting;
            roots = (roots_are _ _).1 s.roots;
          };
          left_is = s.figure;
        };
      }),
)
