-- Words and machines, exactly: words that are a record are those of their machine, and a machine's words tell it again.
use Rattle.std.specs.Prelude.{◌≡◌, refl, true, ℤ, take, drop}
use Rattle.std.proofs.Common.{sym, ◌∙◌, arith, take-append-drop}
use Rattle.std.proofs.Math.Path.{ap}
use mathlib.Core.List.{List, ◌++◌}
use Prim.Native.Nat.{ℕ, ◌-◌, ◌^◌, ◌≤◌, ◌<◌, min}
use Rattle.std.proofs.Math.ListN.{length, replicate}
use Rattle.std.proofs.Math.Seq.{take-append_seam, length-take-le}
use Rattle.queue.specs.declared.Waiting.{Waiting}
use Rattle.queue.specs.Queue.{places, blank}
use Rattle.machine.specs.declared.Machine.{Machine}
use Rattle.encoding.specs.Words.{word_of, count_of}
use Rattle.encoding.specs.laws.Same.{same_true, same_self}
use Rattle.encoding.specs.laws.Record.{Small, count_word, mark_back, work_back}
use Rattle.record.specs.Words.{encode_of, over}
use Rattle.record.specs.computed.Words.{places_in, queue_in, bench_in, machine_in, is_record}
use Rattle.record.specs.laws.Places.{AllSmall, places_back}

-- ---- from words to a machine and back

pub record_words : (ws : List ℤ) → is_record ws ≡ true → over (encode_of (machine_in ws)) ws ≡ ws
unfolding is_record
record_words ws t =
    let n = length (encode_of (machine_in ws)) in
    ap (λ (l : List ℤ). l ++ drop n ws) (sym (same_true (take n ws) (encode_of (machine_in ws)) t)) ∙ take-append-drop n ws

pub words_record : (ws : List ℤ) → over (encode_of (machine_in ws)) ws ≡ ws → is_record ws ≡ true
unfolding is_record
words_record ws e =
    let own = encode_of (machine_in ws) in
    rw (ap (take (length own)) (sym e) ∙ take-append_seam own (drop (length own) ws)) (same_self own)

-- ---- from a machine to words and back

-- counts that are words, and places that none waits in are blank
pub record MachineSmall (m : Machine) : Type 0 where
  pub scale : m.bench.settings.scale < 2 ^ 63
  pub clock : m.bench.settings.clock < 2 ^ 63
  pub remainder : m.bench.remainder < 2 ^ 63
  pub work : Small m.bench.work
  pub root : m.root < 2 ^ 63
  pub left : m.left < 2 ^ 63
  pub sixteen : length m.queue.blocks ≡ 16
  pub most : m.queue.len ≤ 16
  pub waiting : AllSmall (places m.queue)
  pub blanks : drop m.queue.len m.queue.blocks ≡ replicate (16 - m.queue.len) blank

module _ (m : Machine) (s : MachineSmall m) (ws : List ℤ) where
  abbrev then : List ℤ
  then = over (encode_of m) ws

  bench_back : bench_in then ≡ m.bench
  unfolding bench_in encode_of
  bench_back =
      rw (
        count_word s.scale,
        count_word s.clock,
        mark_back m.bench.held,
        count_word s.remainder,
        work_back m.bench.work
            s.work,
      )

  abbrev len : ℕ
  len = m.queue.len

  queue_back : queue_in then len ≡ m.queue
  unfolding encode_of
  queue_back =
      ap (λ (l : List Waiting). record { blocks = l ++ replicate (16 - len) blank; len = len })
      (ap (places_in then 0) many ∙ places_back (places m.queue) s.waiting then 0 (drop (length (encode_of m)) ws) refl)
      ∙ ap (λ (l : List Waiting). record { blocks = places m.queue ++ l; len = len }) (sym s.blanks)
      ∙ ap (λ (l : List Waiting). record { blocks = l; len = len }) (take-append-drop len m.queue.blocks)
    where
      many : min len 16 ≡ length (places m.queue)
      many = omega (arith, s.most, s.sixteen, length-take-le len m.queue.blocks (omega (arith, s.most, s.sixteen)))

  len_back : count_of (word_of len) ≡ len
  len_back = count_word (omega (arith, s.most))

  pub machine_back : machine_in then ≡ m
  unfolding machine_in encode_of
  machine_back = rw (bench_back, count_word s.root, count_word s.left, len_back, queue_back)
