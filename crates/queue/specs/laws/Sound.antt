-- What a sound queue says of the blocks that wait, and back; a sound queue stays sound.
use Rattle.std.specs.Prelude.{◌≡◌, true, ℕ, ◌+◌, ◌≤◌, ◌<◌, leb, eqb, take, drop}
use Rattle.std.proofs.Math.Path.{refl, subst}
use Rattle.std.proofs.Common.{sym, ◌∙◌, arith, leb-true, le-leb, eqb-true, eq-eqb}
use mathlib.Core.List.{List, [], ◌∷◌, ◌++◌}
use Rattle.std.proofs.Math.ListN.{length, length-append, length-set}
use Rattle.whole.specs.laws.Test.{both, joined}
use Rattle.plane.specs.declared.point.Point.{Point}
use Rattle.plane.specs.declared.travel.Travel.{Travel}
use Rattle.block.specs.declared.Block.{Block}
use Rattle.block.specs.Questions.{load_no}
use Rattle.block.specs.Chain.{end_after, chain_end, root_of}
use Rattle.block.specs.computed.Chain.{chain_accepted}
use Rattle.block.proofs.laws.Chain.{accepted_first, accepted_more}
use Rattle.queue.specs.declared.Waiting.{Waiting}
use Rattle.queue.specs.declared.Queue.{Queue}
use Rattle.queue.specs.Queue.{places, blocks_of, waiting, blank, empty_queue, pushed_of, first_of, popped_of}
use Rattle.queue.specs.computed.Queue.{roots_right, queue_sound}
use Rattle.queue.specs.Queue.{waiting_at}
use Rattle.queue.specs.laws.Waiting.{push_places, push_waiting, pop_places, pop_waiting}

pub record QueueSound (q0 : ℕ) (t : Travel) (from : Point) (q : Queue) : Type 0 where
  pub sixteen : length q.blocks ≡ 16
  pub most : q.len ≤ 16
  pub accepted : chain_accepted q0 t from (waiting q) ≡ true
  pub roots : roots_right from (places q) ≡ true

pub queue_sound_lem : {q0 : ℕ} {t : Travel} {from : Point} {q : Queue} → queue_sound q0 t from q ≡ true → QueueSound q0 t from q
unfolding queue_sound
queue_sound_lem {q0} {t} {from} {q} e =
    let sixteen = both {a = eqb (length q.blocks) 16} e in
    let most = both {a = leb q.len 16} sixteen.1 in
    let rest = both {a = chain_accepted q0 t from (waiting q)} most.1 in
    record { sixteen = eqb-true _ 16 sixteen.0; most = leb-true _ 16 most.0; accepted = rest.0; roots = rest.1 }

pub queue_test : {q0 : ℕ} {t : Travel} {from : Point} {q : Queue} → QueueSound q0 t from q → queue_sound q0 t from q ≡ true
unfolding queue_sound
queue_test i = joined (eq-eqb _ 16 i.sixteen) (joined (le-leb _ 16 i.most) (joined i.accepted i.roots))

-- ---- roots

pub roots_first : (start : Point) (w : Waiting) (l : List Waiting) → roots_right start (w ∷ l) ≡ true
    → (w.root ≡ root_of start w.block) × (roots_right (end_after start w.block) l ≡ true)
unfolding roots_right
roots_first start w l e = let r = both {a = eqb w.root (root_of start w.block)} e in (eqb-true _ _ r.0, r.1)

roots_push : (start : Point) (l : List Waiting) (b : Block) → roots_right start l ≡ true
    → roots_right start (l ++ (waiting_at (chain_end start (blocks_of l)) b ∷ [])) ≡ true
unfolding roots_right chain_end
roots_push start [] b e = joined (eq-eqb (root_of start b) _ refl) refl
roots_push start (w ∷ l) b e =
    let r = both {a = eqb w.root (root_of start w.block)} e in
    joined r.0 (roots_push (end_after start w.block) l b r.1)

module _ (q0 : ℕ) (t : Travel) where
  pub empty_sound : (from : Point) → QueueSound q0 t from empty_queue
  unfolding empty_queue chain_accepted roots_right
  empty_sound from = record { sixteen = refl; most = omega arith; accepted = refl; roots = refl }

  -- any queue in which none waits
  pub none_sound : (from : Point) (q : Queue) → length q.blocks ≡ 16 → q.len ≡ 0 → QueueSound q0 t from q
  unfolding chain_accepted roots_right
  none_sound from q sixteen none =
      record {
        sixteen = sixteen;
        most = omega (arith, none);
        accepted = subst (λ (n : ℕ). chain_accepted q0 t from (blocks_of (take n q.blocks)) ≡ true) (sym none) refl;
        roots = subst (λ (n : ℕ). roots_right from (take n q.blocks) ≡ true) (sym none) refl;
      }

  -- one more, that no question refuses from where the last one ends
  pub push_sound : (from : Point) (q : Queue) (b : Block) → QueueSound q0 t from q → q.len < 16
      → load_no q0 t true (chain_end from (waiting q)) b ≡ 0
      → QueueSound q0 t from (pushed_of q (waiting_at (chain_end from (waiting q)) b))
  unfolding pushed_of
  push_sound from q b i room asked =
      record {
        sixteen = length-set q.blocks q.len w ∙ i.sixteen;
        most = omega (arith, room);
        accepted = subst (λ (l : List Block). chain_accepted q0 t from l ≡ true) (sym (push_waiting q w fits))
            (accepted_more q0 t from (waiting q) b i.accepted asked);
        roots = subst (λ (l : List Waiting). roots_right from l ≡ true) (sym (push_places q w fits))
            (roots_push from (places q) b i.roots);
      }
    where
      w : Waiting
      w = waiting_at (chain_end from (waiting q)) b

      fits : q.len < length q.blocks
      fits = omega (arith, room, i.sixteen)

  -- what is known of the first one, and the queue behind it, which begins where that one ends
  pub record First (from : Point) (q : Queue) : Type 0 where
    pub asked : load_no q0 t true from (first_of q).block ≡ 0
    pub root : (first_of q).root ≡ root_of from (first_of q).block
    pub rest : QueueSound q0 t (end_after from (first_of q).block) (popped_of q)

  pub first_sound : (from : Point) (q : Queue) → QueueSound q0 t from q → 1 ≤ q.len → First from q
  unfolding popped_of
  first_sound from q i some =
      record {
        asked = chain.0;
        root = roots.0;
        rest = record {
          sixteen = length-append (drop 1 q.blocks) (blank ∷ []) ∙ by q.blocks i.sixteen;
          most = omega (arith, i.most);
          accepted = chain.1;
          roots = roots.1;
        };
      }
    where
      fits : q.len ≤ length q.blocks
      fits = omega (arith, i.sixteen, i.most)

      chain : (load_no q0 t true from (first_of q).block ≡ 0) × (chain_accepted q0 t (first_of q).block.end (waiting (popped_of q)) ≡ true)
      chain =
          accepted_first q0 t from (first_of q).block (waiting (popped_of q))
          (subst (λ (l : List Block). chain_accepted q0 t from l ≡ true) (pop_waiting q some fits) i.accepted)

      roots : ((first_of q).root ≡ root_of from (first_of q).block) × (roots_right (first_of q).block.end (places (popped_of q)) ≡ true)
      roots =
          roots_first from (first_of q) (places (popped_of q))
          (subst (λ (l : List Waiting). roots_right from l ≡ true) (pop_places q some fits) i.roots)

      by : (l : List Waiting) → length l ≡ 16 → length (drop 1 l) + 1 ≡ 16
      by [] e = absurd (omega arith)
      by (x ∷ l) e = omega arith
