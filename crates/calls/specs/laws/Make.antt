-- What a make lays are the words of the fresh record.
use Rattle.std.specs.Prelude.{◌≡◌, refl, List, [], ◌∷◌, ◌++◌, ℕ, zero, suc, ◌+◌, ◌≤◌, ◌<◌, ℤ, pos, length, drop}
use Rattle.std.specs.Prelude.{set, get_or, Result, Ok, Err, ⊤}
use Rattle.std.proofs.Common.{sym, ap, subst, ◌∙◌, add-one, arith, length-drop, drop-drop}
use Rattle.std.proofs.Math.Seq.{paste, paste-suc, take-length}
use Rattle.question.specs.Question.{number_of}
use Rattle.question.specs.declared.Question.{Question}
use Rattle.block.specs.Chain.{chain_cycles}
use Rattle.queue.specs.Queue.{empty_queue}
use Rattle.settings.specs.declared.Settings.{Settings}
use Rattle.settings.specs.computed.Settings.{ask_settings}
use Rattle.settings.specs.Settings.{standard_settings}
use Rattle.bench.specs.declared.Bench.{Bench}
use Rattle.bench.specs.declared.Answered.{Answered}
use Rattle.bench.specs.Bench.{fresh_of as fresh_bench}
use Rattle.bench.specs.computed.Calls.{make_with as bench_with, make_of as bench_make}
use Rattle.machine.specs.Machine.{to_do, machine_of, fresh_of}
use Rattle.machine.specs.computed.Calls.{make_with, make_of}
use Rattle.encoding.specs.Words.{abi, word_of, refusal_of, head_of, work_words_of, words_of}
use Rattle.encoding.specs.Words.{encode_of as bench_words}
use Rattle.record.specs.Words.{figures_of, front_of, queue_words, encode_of, over}
use Rattle.calls.specs.Calls.{answer_number}
use Rattle.calls.specs.computed.Calls.{tells, told_answer, made_of}

-- a record of which no block is left to do
abbrev fresh_words : Bench → List ℤ
fresh_words k = front_of abi (head_of k) (work_words_of k.work) (figures_of 0 0 0) []

none_more : (i : ℕ) → 0 + i ≡ i
none_more i = omega arith

-- one word more
pub lay_step : (ws front : List ℤ) (i : ℕ) → i < length ws → i < length front → {now : List ℤ} → now ≡ paste ws 0 front i
    → set now i (get_or front i (pos 0)) ≡ paste ws 0 front (i + 1)
lay_step ws front i h k e =
    rw (e, add-one)
    (subst (λ (n : ℕ). set (paste ws 0 front i) n (get_or front i (pos 0)) ≡ paste ws 0 front (suc i)) (none_more i)
    (paste-suc ws 0 front i (pos 0) (omega (arith, h)) k))

pub all_laid : (ws front : List ℤ) → length front ≡ 19 → {now : List ℤ} {i : ℕ} → i ≡ 19 → now ≡ paste ws 0 front i → now ≡ over front ws
all_laid ws front long all e =
    e
    ∙ ap (λ (n : ℕ). paste ws 0 front n) (all ∙ sym long)
    ∙ ap (λ (l : List ℤ). l ++ drop (0 + length front) ws) (take-length front)
    ∙ ap (λ (n : ℕ). front ++ drop n ws) (none_more (length front))

three : (l : List ℤ) → 3 ≤ length l → set (set (set l 0 (pos 0)) 1 (pos 0)) 2 (pos 0) ≡ pos 0 ∷ pos 0 ∷ pos 0 ∷ drop 3 l
three [] h = absurd (omega arith)
three (x ∷ []) h = absurd (omega arith)
three (x ∷ y ∷ []) h = absurd (omega arith)
three (x ∷ y ∷ z ∷ l) h = refl

-- a bench's words, and three words of 0 behind them
figures_laid : (ws : List ℤ) → length ws ≡ 134 → (k : Bench)
    → set (set (set (over (bench_words k) ws) 19 (pos 0)) 20 (pos 0)) 21 (pos 0) ≡ over (fresh_words k) ws
unfolding bench_words word_of
figures_laid ws long k =
    ap (λ (l : List ℤ). words_of (head_of k) (work_words_of k.work) ++ l)
    (three (drop 19 ws) (omega (arith, length-drop 19 ws, long)) ∙ ap (λ (l : List ℤ). pos 0 ∷ pos 0 ∷ pos 0 ∷ l) (drop-drop 3 19 ws))

fresh_laid : (s : Settings) → fresh_words (fresh_bench s) ≡ encode_of (fresh_of s)
unfolding encode_of machine_of fresh_bench empty_queue to_do chain_cycles queue_words word_of
fresh_laid s = refl

pub make_told : (ws : List ℤ) → length ws ≡ 134 → (s : Settings) {a : Answered} → a ≡ bench_make s
    → tells (answer_number a.answer) (set (set (set (over (bench_words a.bench) ws) 19 (pos 0)) 20 (pos 0)) 21 (pos 0)) ≡ made_of ws s
unfolding made_of make_of bench_make
make_told ws long s {a} is = ap (tells (answer_number a.answer)) (figures_laid ws long a.bench) ∙ rw is (by (ask_settings s))
  where
    by : (r : Result ⊤ Question) → tells (answer_number (bench_with s r).answer) (over (fresh_words (bench_with s r).bench) ws)
        ≡ told_answer ws (make_with s r)
    by (Ok passed) = ap (λ (l : List ℤ). tells (pos 0) (over l ws)) (fresh_laid s)
    by (Err q) = ap (λ (l : List ℤ). tells (refusal_of (number_of q)) (over l ws)) (fresh_laid standard_settings)
