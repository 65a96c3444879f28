-- The tick bytes that are handed out are those of the job's blocks, loaded and ticked one after the other.
use Rattle.std.specs.Prelude.{◌≡◌, Bool, true, false, cond, List, [], ◌∷◌, ◌++◌, ℕ, ◌+◌, leb, pos, length, take, drop, Ok}
use Rattle.std.proofs.Math.Path.{refl, ap, subst}
use Rattle.std.proofs.Common.{sym, ◌∙◌, append_assoc, arith}
use Rattle.block.specs.declared.Block.{Block}
use Rattle.block.specs.Block.{block_width}
use Rattle.work.specs.Work.{begun_of}
use Rattle.divider.specs.Divider.{end_tick}
use Rattle.divider.specs.computed.Divider.{last_tick}
use Rattle.settings.specs.declared.Settings.{Settings}
use Rattle.settings.specs.computed.Settings.{settings_no}
use Rattle.bench.specs.declared.Bench.{Bench}
use Rattle.bench.specs.declared.Answer.{Answer}
use Rattle.bench.specs.declared.Answered.{Answered}
use Rattle.bench.specs.declared.Ran.{Ran}
use Rattle.bench.specs.Bench.{moved_of, fresh_of}
use Rattle.bench.specs.computed.Calls.{load_of}
use Rattle.bench.specs.computed.Run.{Run, run_of}
use Rattle.machine.specs.Machine.{machine_of}
use Rattle.machine.specs.Calls.{answers}
use Rattle.machine.specs.laws.Alone.{alone, alone_sound, next_alone, load_alone}
use Rattle.run.specs.laws.Strip.{end_tick_lem}
use Rattle.finish.specs.computed.Finish.{last_tick_of, finish_of}
use Rattle.finish.specs.declared.Finished.{Finished}
use Rattle.finish.specs.laws.Record.{AtWork, AtRest, at_work, finishes, ticks_most}
use Rattle.finish.specs.laws.Loaded.{loaded_at_work}
use Rattle.reader.specs.declared.Reader.{Reader}
use Rattle.reader.specs.declared.text_line.ReadLine.{ReadLine}
use Rattle.reader.specs.computed.Reader.{longest_text}
use Rattle.reader.specs.Reader.{unknown}
use Rattle.job.specs.Text.{lines_of}
use Rattle.job.specs.computed.Job.{Asks, read_on, job_from_at, job_at, job_from, job_of}
use Rattle.job.specs.Job.{Made, End}
use Rattle.job.specs.computed.Check.{enough}
use Rattle.job.specs.computed.Check.{unless}
use Rattle.job.specs.laws.Ended.{Accepted, ended_of, ended_rests, ended_run}
use Rattle.job.specs.laws.Listing.{fresh_rests}
use Rattle.job.specs.laws.Asks.{Read-as, line_asks_lem, load_accepted}
use Rattle.stream.specs.declared.Stream.{Stream}
use Rattle.stream.specs.computed.Stream.{run_then, is_refused, bytes_from, tick_bytes_of, rest_of}
use Rattle.stream.specs.laws.Pieces.{runs, still_idle, nothing_left}
use Rattle.stream.specs.laws.Told.{stream_tells, bytes_told_lem}
use Rattle.demands.specs.Runs.{TicksTo}
use Rattle.demands.specs.Texts.{FrontOf}
use Rattle.demands.specs.TickBytes.{BlocksTick, JobBytes, StartsStream, BytesOut, EveryTickByte}
use Rattle.demands.proofs.laws.Bench.{settings_pass}
use Rattle.demands.proofs.laws.Runs.{strip_counts, strip_ticks}

-- ---- a run to the block's end, tick by tick

-- at a machine in which none waits
pub record ToEnd (m : Bench) (x : Run) : Type 0 where
  pub ticks : TicksTo (alone m) x.bytes (alone x.ran.bench)
  pub many : length x.bytes ≡ last_tick_of m
  pub finishes : length x.bytes ≡ (finish_of m).ticks

pub run_to_end : (m : Bench) → AtWork m → ToEnd m (run_of m enough enough)
unfolding machine_of
run_to_end m a =
    let c = strip_counts enough (last_tick_of m) (at_work a) (end_tick_lem (at_work a)) in
    let finished = ap (λ (f : Finished). f.ticks) (finishes m a) in
    let ticks = strip_ticks enough (alone m) (alone_sound m ∙ a.sound) a in
    subst (ToEnd m) (sym (runs m a enough enough))
    (record {
      ticks = subst (TicksTo (alone m) _) (next_alone _) ticks;
      many = omega (arith, c.ticks, ticks_most m, finished);
      finishes = omega (arith, c.ticks, ticks_most m, finished);
    })

-- ---- the blocks of a job

module _ (m : Bench) (n : ℕ) (b : Block) (i : AtRest m) (ok : Accepted m b) (rest : Bench → List ℕ) where
  -- the load answers the block's width
  width_told : (load_of m b).answer ≡ Ok (Answer.Width (block_width m.at b))
  unfolding begun_of
  width_told = ap (λ (a : Answered). a.answer) (load_accepted m i.sound i.idle b ok)

  block_ticks_lem : {later : List Made} → BlocksTick (alone (ended_of m b).bench) later (rest (ended_of m b).bench)
      → BlocksTick (alone m) (record { text_line = n; start = m.at; block = b } ∷ later) (run_then (load_of m b).bench rest)
  unfolding machine_of moved_of end_tick last_tick
  block_ticks_lem later =
      let loaded = load_of m b in
      let x = run_of loaded.bench enough enough in
      let left : x.ran.bench ≡ (ended_of m b).bench = ap (λ (r : Ran). r.bench) (ended_run m i b ok) in
      let e = run_to_end loaded.bench (loaded_at_work m i b (rw i.idle ok)) in
      let ticks = subst (λ (k : Bench). TicksTo (alone loaded.bench) x.bytes (alone k)) left e.ticks in
      rw left
      (BlocksTick.block (record { text_line = n; start = m.at; block = b }) (answers loaded.answer (alone loaded.bench)) refl
      (sym (load_alone m b i.idle)) width_told ticks e.many refl later)

abbrev Ticked : List (List ℕ) → Type 0
Ticked ls =
    (n : ℕ) (m : Bench) (k : Reader) → AtRest m
    → BlocksTick (alone m) (job_from m.settings n m.at k ls).blocks (bytes_from m k ls)

by_line : (m : Bench) (n : ℕ) (k : Reader) (ls : List (List ℕ)) → AtRest m → Ticked ls → {a : Asks} {r : ReadLine} → Read-as m k a r
    → BlocksTick (alone m) (read_on n m.at a (λ at k'. job_from m.settings (n + 1) at k' ls)).blocks
    (unless (is_refused r.answer) (run_then r.bench (λ m'. bytes_from m' r.reader ls)))
unfolding moved_of
by_line m n k ls i rest (Read-as.nothing known) =
    rw (nothing_left m (λ (m' : Bench). bytes_from m' known ls) (still_idle m i.idle)) (rest (n + 1) m known i)
by_line m n k ls i rest (Read-as.makes known b ok) =
    block_ticks_lem m n b i ok (λ m'. bytes_from m' known ls) (rest (n + 1) (ended_of m b).bench known (ended_rests m i b ok))
by_line m n k ls i rest (Read-as.refuses number) = BlocksTick.none

lines_tick : (ls : List (List ℕ)) → Ticked ls
unfolding bytes_from job_from_at
lines_tick [] n m k i = BlocksTick.none
lines_tick (l ∷ ls) n m k i = by_line m n k ls i (lines_tick ls) (line_asks_lem m k i.sound i.idle l)

text_ticks : (s : Settings) → settings_no s ≡ 0 → (text : List ℕ)
    → BlocksTick (alone (fresh_of s)) (job_of s text).blocks (tick_bytes_of s text)
unfolding tick_bytes_of job_at fresh_of
text_ticks s passed text = by (leb (length text) longest_text)
  where
    by : (short : Bool)
        → BlocksTick (alone (fresh_of s))
        (cond short (job_from s 1 (record { x = pos 0; y = pos 0 }) unknown (lines_of text))
        (record { blocks = []; end = End.refused 1 30 })).blocks
        (cond short (bytes_from (fresh_of s) unknown (lines_of (drop 0 text))) [])
    by true = lines_tick (lines_of text) 1 (fresh_of s) unknown (fresh_rests s passed)
    by false = BlocksTick.none

-- ---- handed out

bytes_rest : {text : List ℕ} {t : Stream} {bytes : List ℕ} {u : Stream} → BytesOut text t bytes u → bytes ++ rest_of u text ≡ rest_of t text
bytes_rest BytesOut.none = refl
bytes_rest {text} {t} (BytesOut.fill {bytes = bytes} {u = u} before κs lent out out' f is h) =
    append_assoc bytes (take f.len out'.now) (rest_of f.stream text)
    ∙ ap (λ (rest : List ℕ). bytes ++ rest)
    (subst (λ (s : List ℕ). take f.len out'.now ++ rest_of f.stream s ≡ rest_of u s) is h.bytes)
    ∙ bytes_rest before

over_rest : (u : Stream) (text : List ℕ) → u.over ≡ true → rest_of u text ≡ []
unfolding rest_of
over_rest u text e = rw e

job_bytes : (s : Settings) → settings_no s ≡ 0 → (text : List ℕ) → JobBytes s text (tick_bytes_of s text)
job_bytes s passed text =
    let c = bytes_told_lem s passed text in
    record { blocks = text_ticks s passed text; ticks = c.ticks; cycles = c.cycles }

-- what a stream that began at a fresh machine has handed out
pub stream_front : (s : Settings) (t : Stream) → StartsStream (fresh_of s) t → (text bytes : List ℕ) (u : Stream) → BytesOut text t bytes u
    → FrontOf (tick_bytes_of s text) bytes (u.over ≡ true)
stream_front s t e text bytes u out =
    record {
      rest = rest_of u text;
      front = bytes_rest out ∙ ap (λ (t : Stream). rest_of t text) e ∙ stream_tells s text;
      all = over_rest u text;
    }

pub every_tick_byte : EveryTickByte
every_tick_byte =
    record {
      fill = λ κs t text out out' f h. record { fits = h.room; later = h.later; progress = h.onward };
      bytes = λ s pass t e text. (
        tick_bytes_of s text,
        job_bytes s ((settings_pass s).1 pass) text,
        stream_front s t e text,
      );
    }
