-- The demands from C, where the caller owns the record as 134 words: on the words of a sound record each call is the machine's own, so that
-- what is claimed of the machine's calls is claimed of these; all other words get 9 and stay as they are.
use Rattle.std.specs.Prelude.{◌≡◌, ◌⊎◌, List, ℕ, zero, suc, ◌-◌, ◌^◌, ◌≤◌, ◌<◌, ℤ, pos, negsuc, length, take, drop, replicate}
use Rattle.std.specs.Prelude.{Option, Some, None}
use Rattle.std.specs.Borrow.{Bor, MutBor}
use contract.Lifetimes.{Lfts}
use Rattle.circle.specs.declared.plane.Turn.{Turn}
use Rattle.block.specs.declared.Path.{Path}
use Rattle.queue.specs.Queue as queue
use Rattle.settings.specs.declared.Settings.{Settings}
use Rattle.settings.specs.Settings.{feed_unit, capacity_of}
use Rattle.bench.specs.declared.Bench.{Bench}
use Rattle.machine.specs.declared.Machine.{Machine}
use Rattle.machine.specs.declared.Answered.{Answered}
use Rattle.machine.specs.declared.Ticked.{Ticked}
use Rattle.machine.specs.declared.Ran.{Ran}
use Rattle.look.specs.declared.Ahead.{Ahead}
use Rattle.history.specs.CallContracts.{Makes, Loads, Ticks, Runs, Holds, Releases, Stops, ReadsLine, Looks}
use Rattle.reader.specs.declared.Feed.{Feed}
use Rattle.reader.specs.declared.Reader.{Reader}
use Rattle.textline.specs.declared.ReadLine.{ReadLine}
use Rattle.job.specs.computed.Job.{job_at}
use Rattle.job.specs.Listing.{job_listing}
use Rattle.panel.specs.computed.Listing.{panel_job}
use Rattle.encoding.specs.Words.{settings_of}
use Rattle.record.specs.Words.{encode_of, over}
use Rattle.progress.specs.Known.{encode_known}
use Rattle.progress.specs.Progress.{check_in}
use Rattle.calls.specs.Calls.{WordCall, answer_number, tick_number, report_number}
use Rattle.calls.specs.computed.Calls.{tells, told_of, made_of, tells_run, told_run_of}
use Rattle.cmachine.specs.Given.{arc_path, block_given}
use Rattle.cmachine.specs.Looks.{sum_words, no_sums}
use Rattle.cmachine.specs.Texts.{read_number}
use Rattle.cmachine.specs.computed.Looks.{tells_ahead, told_ahead_of}
use Rattle.cmachine.specs.computed.Texts.{tells_line, told_line_of}
use Rattle.ccheck.specs.Check.{Refuses}
use Rattle.cpanel.specs.Words.{panel_in}
use Rattle.demands.specs.Asked.{AllYes}
use Rattle.demands.specs.Bench.{settings_questions}
use Rattle.demands.specs.Sound.{Sound}
use Rattle.demands.specs.Texts.{FrontOf}
use Rattle.demands.specs.CheckFromC.{StartsFromC, StartedWords, FillsFromC, OwnFill, IsCheck, RowsOutToC}
use Rattle.demands.specs.PanelFromC.{StartsPanelFromC, StartedPanel, ReadCall, ReadsFromC, Unchanged, OwnRead, IsPanel}
use Rattle.demands.specs.PanelFromC.{RowsReadToC, MoreToC}

-- ---- what each call for C promises, as its contract in src/ says it; proofs/Promised.antt proves that this is what the checker hands to a
-- caller. The words given are lent, and are words' afterwards; n is what it answers

abbrev pub MakesFromC : Lfts 1 → (words words' : MutBor (List ℤ)) (p w xlo xhi ylo yhi n : ℤ) → Type 0
MakesFromC κs words words' p w xlo xhi ylo yhi n = tells n words'.now ≡ made_of words.now (settings_of p w xlo xhi ylo yhi)

-- a call that takes nothing but the words, or a load
abbrev pub CallsFromC : Lfts 1 → WordCall → (words words' : MutBor (List ℤ)) (n : ℤ) → Type 0
CallsFromC κs k words words' n = tells n words'.now ≡ told_of words.now k

abbrev pub RunsFromC : Lfts 3
    → (words words' : MutBor (List ℤ)) (budget : ℕ) (out out' : MutBor (List ℕ)) (ticks ticks' : MutBor ℕ) (n : ℤ) → Type 0
RunsFromC κs words words' budget out out' ticks ticks' n =
    tells_run n ticks'.now words'.now out'.now ≡ told_run_of words.now budget out.now

abbrev pub LooksFromC : Lfts 3 → (words : Bor (List ℤ)) (then then' sums sums' : MutBor (List ℤ)) (ticks : ℕ) (n : ℤ) → Type 0
LooksFromC κs words then then' sums sums' ticks n = tells_ahead n then'.now sums'.now ≡ told_ahead_of words.now ticks

abbrev pub ReadsLineFromC : Lfts 3 → (words words' known known' : MutBor (List ℤ)) (line : Bor (List ℕ)) (n : ℤ) → Type 0
ReadsLineFromC κs words words' known known' line n =
    tells_line n words'.now known'.now ≡ told_line_of words.now known.now line.now

-- ---- the machine's own call on the record m: it may give the answer n, as C has it, and the record m'

abbrev pub OwnAnswer : (Answered → Type 0) → (n : ℤ) → Machine → Type 0
OwnAnswer May n m' = (r : Answered) × May r × (n ≡ answer_number r.answer) × (m' ≡ r.machine)

abbrev pub Own : WordCall → (m : Machine) (n : ℤ) (m' : Machine) → Type 0
Own (WordCall.load b) m n m' = OwnAnswer (Loads m b) n m'
Own WordCall.tick m n m' = (r : Ticked) × Ticks m r × (n ≡ tick_number r.tick) × (m' ≡ r.machine)
Own WordCall.hold m n m' = OwnAnswer (Holds m) n m'
Own WordCall.release m n m' = OwnAnswer (Releases m) n m'
Own WordCall.stop m n m' = OwnAnswer (Stops m) n m'

-- ---- on words

-- words that begin with those of a sound record; what stands behind these is no part of it
pub record Carries (ws : List ℤ) (m : Machine) : Type 0 where
  pub sound : Sound m
  pub words : take (length (encode_of m)) ws ≡ encode_of m
  -- words do not tell what the places hold in which none waits, and no answer depends on it: here they are blank, as in every history
  pub blank : drop m.queue.len m.queue.blocks ≡ replicate (16 - m.queue.len) queue.blank

-- words that no sound record has
abbrev pub NoRecord : List ℤ → Type 0
NoRecord ws = (m : Machine) → ¬ (Carries ws m)

pub record OnWords (call : WordCall) (before : List ℤ) (n : ℤ) (after : List ℤ) : Type 0 where
  -- the words after it are again those of a sound record, and those behind them are as they were
  pub own : (m : Machine) → Carries before m → (m' : Machine) × Own call m n m' × Carries after m' × (after ≡ over (encode_of m') before)
  -- "Any call on a record: is it sound? 9."; "returns record and buffers unchanged"
  pub others : NoRecord before → (n ≡ negsuc 8) × (after ≡ before)
  -- a refusal of whatever number leaves every word
  pub refused : (k : ℕ) → n ≡ negsuc k → after ≡ before

-- of a run, the ticks and the buffer too
abbrev pub OwnRun : Machine → (budget : ℕ) (out out' : MutBor (List ℕ)) (n : ℤ) (ticks : ℕ) → Machine → Type 0
OwnRun m budget out out' n ticks m' =
    (r : Ran) × ((κs : Lfts 1) → Runs κs m budget out out' r) × (n ≡ report_number r.report) × (ticks ≡ r.ticks) × (m' ≡ r.machine)

pub record RunOnWords (before : List ℤ) (budget : ℕ) (out out' : MutBor (List ℕ)) (n : ℤ) (ticks : ℕ) (after : List ℤ) : Type 0 where
  pub own : (m : Machine) → Carries before m
      → (m' : Machine) × OwnRun m budget out out' n ticks m' × Carries after m' × (after ≡ over (encode_of m') before)
  pub others : NoRecord before → (n ≡ negsuc 8) × (ticks ≡ 0) × (after ≡ before) × (out'.now ≡ out.now)
  pub refused : (k : ℕ) → n ≡ negsuc k → (ticks ≡ 0) × (after ≡ before) × (out'.now ≡ out.now)

-- so many calls of a tick, each on the words that the one before left
pub data TickedWords : ℕ → (before after : List ℤ) → Type 0 where
  none : {ws : List ℤ} → TickedWords zero ws ws
  one : {n : ℕ} {ws : List ℤ} (κs : Lfts 1) (words words' : MutBor (List ℤ)) (answer : ℤ)
      → CallsFromC κs WordCall.tick words words' answer → TickedWords n words'.now ws → TickedWords (suc n) words.now ws

-- of a look-ahead, the words of the record that it gives, and the sums; those of the machine itself are lent for reading
pub record LookOnWords (before : List ℤ) (ticks : ℕ) (n : ℤ) (then sums : List ℤ) : Type 0 where
  pub own : (m : Machine) → Carries before m
      → (r : Ahead) × Looks m ticks r × (n ≡ answer_number r.answer) × Carries then r.then × (sums ≡ sum_words r.sums)
  -- 02 §1: "the record .. that the same ticks would give on a copy", in every word
  pub copy : n ≡ pos 0 → (ws : List ℤ) → TickedWords ticks before ws → then ≡ ws
  pub others : NoRecord before → (n ≡ negsuc 8) × (then ≡ before) × (sums ≡ no_sums)
  -- 02 §1: "A refusal gives the machine's own record and sums of 0."
  pub refused : (k : ℕ) → n ≡ negsuc k → (then ≡ before) × (sums ≡ no_sums)

-- a make asks nothing of the words
abbrev pub MadeWords : Settings → (before : List ℤ) (n : ℤ) (after : List ℤ) → Type 0
MadeWords s before n after =
    (r : Answered) × Makes s r × (n ≡ answer_number r.answer) × Carries after r.machine × (after ≡ over (encode_of r.machine) before)

-- ---- a line of a job text, with the G and F known in 2 words

-- an F as a text can write it: seven digits and three decimals
abbrev pub FeedWritten : Option Feed → Type 0
FeedWritten None = Unit {0}
FeedWritten (Some f) = (f.millimetres < 10 ^ 7) × (f.thousandths < 1000)

-- words that tell nothing known
abbrev pub NotKnown : List ℤ → Type 0
NotKnown ks = (k : Reader) → FeedWritten k.feed → ¬ (ks ≡ encode_known k)

pub record LineOnWords (before known : List ℤ) (line : Bor (List ℕ)) (n : ℤ) (after known' : List ℤ) : Type 0 where
  -- read_line's own, and the words after it are again those of a sound record
  pub own : (m : Machine) → Carries before m → (k : Reader) → FeedWritten k.feed → known ≡ encode_known k
      → (r : ReadLine) × ((κs : Lfts 1) → ReadsLine κs k m line r) × (n ≡ read_number r.answer) × Carries after r.machine
      × (after ≡ over (encode_of r.machine) before) × (known' ≡ encode_known r.reader)
  pub others : NoRecord before ⊎ NotKnown known → (n ≡ negsuc 8) × (after ≡ before) × (known' ≡ known)
  -- "A refused line leaves the known G and F and the machine as before it."
  pub refused : (k : ℕ) → n ≡ negsuc k → (after ≡ before) × (known' ≡ known)

pub record EveryCallFromC : Type 0 where
  pub make : (κs : Lfts 1) (words words' : MutBor (List ℤ)) (p w xlo xhi ylo yhi n : ℤ)
      → MakesFromC κs words words' p w xlo xhi ylo yhi n
      → MadeWords (settings_of p w xlo xhi ylo yhi) words.now n words'.now
  pub line : (κs : Lfts 1) (words words' : MutBor (List ℤ)) (x y feed n : ℤ)
      → CallsFromC κs (WordCall.load (block_given Path.Line x y feed)) words words' n
      → OnWords (WordCall.load (block_given Path.Line x y feed)) words.now n words'.now
  pub clockwise : (κs : Lfts 1) (words words' : MutBor (List ℤ)) (x y feed i j n : ℤ)
      → CallsFromC κs (WordCall.load (block_given (arc_path Turn.Clockwise i j) x y feed)) words words' n
      → OnWords (WordCall.load (block_given (arc_path Turn.Clockwise i j) x y feed)) words.now n words'.now
  pub counterclockwise : (κs : Lfts 1) (words words' : MutBor (List ℤ)) (x y feed i j n : ℤ)
      → CallsFromC κs (WordCall.load (block_given (arc_path Turn.Counterclockwise i j) x y feed)) words words' n
      → OnWords (WordCall.load (block_given (arc_path Turn.Counterclockwise i j) x y feed)) words.now n words'.now
  pub tick : (κs : Lfts 1) (words words' : MutBor (List ℤ)) (n : ℤ) → CallsFromC κs WordCall.tick words words' n
      → OnWords WordCall.tick words.now n words'.now
  pub hold : (κs : Lfts 1) (words words' : MutBor (List ℤ)) (n : ℤ) → CallsFromC κs WordCall.hold words words' n
      → OnWords WordCall.hold words.now n words'.now
  pub release : (κs : Lfts 1) (words words' : MutBor (List ℤ)) (n : ℤ) → CallsFromC κs WordCall.release words words' n
      → OnWords WordCall.release words.now n words'.now
  pub stop : (κs : Lfts 1) (words words' : MutBor (List ℤ)) (n : ℤ) → CallsFromC κs WordCall.stop words words' n
      → OnWords WordCall.stop words.now n words'.now
  pub run : (κs : Lfts 3) (words words' : MutBor (List ℤ)) (budget : ℕ) (out out' : MutBor (List ℕ)) (ticks ticks' : MutBor ℕ) (n : ℤ)
      → RunsFromC κs words words' budget out out' ticks ticks' n
      → RunOnWords words.now budget out out' n ticks'.now words'.now
  pub look : (κs : Lfts 3) (words : Bor (List ℤ)) (then then' sums sums' : MutBor (List ℤ)) (ticks : ℕ) (n : ℤ)
      → LooksFromC κs words then then' sums sums' ticks n
      → LookOnWords words.now ticks n then'.now sums'.now
  pub text : (κs : Lfts 3) (words words' known known' : MutBor (List ℤ)) (line : Bor (List ℕ)) (n : ℤ)
      → ReadsLineFromC κs words words' known known' line n
      → LineOnWords words.now known.now line n words'.now known'.now
  pub start : (κs : Lfts 2) (words words' progress progress' : MutBor (List ℤ)) (p w xlo xhi ylo yhi n : ℤ)
      → StartsFromC κs words words' progress progress' p w xlo xhi ylo yhi n
      → StartedWords (settings_of p w xlo xhi ylo yhi) n words'.now progress'.now
  pub fill : (κs : Lfts 5) (ws ws' ps ps' : MutBor (List ℤ)) (text : Bor (List ℕ)) (out out' : MutBor (List ℕ))
      (len len' : MutBor ℕ) (n : ℤ)
      → FillsFromC κs ws ws' ps ps' text out out' len len' n → (k : Bench) → IsCheck ws.now ps.now k
      → OwnFill (check_in k ps.now) text out out' n len'.now ws'.now ps'.now
  -- all other words get 9, and nothing is written
  pub no_check : (κs : Lfts 5) (ws ws' ps ps' : MutBor (List ℤ)) (text : Bor (List ℕ)) (out out' : MutBor (List ℕ))
      (len len' : MutBor ℕ) (n : ℤ)
      → FillsFromC κs ws ws' ps ps' text out out' len len' n → ((k : Bench) → ¬ (IsCheck ws.now ps.now k))
      → Refuses ws.now ps.now out.now n len'.now ws'.now ps'.now out'.now
  -- "The check program", from C: whoever fills the words of a start gets the listing, to the byte, and the answer 1 at its end
  pub listing : (κs : Lfts 2) (words words' progress progress' : MutBor (List ℤ)) (p w xlo xhi ylo yhi n : ℤ)
      → StartsFromC κs words words' progress progress' p w xlo xhi ylo yhi n
      → (let s = settings_of p w xlo xhi ylo yhi in AllYes (settings_questions s)
      → (text bytes : List ℕ) (last : ℤ) (ws ps : List ℤ) → RowsOutToC text words'.now progress'.now bytes last ws ps
      → FrontOf (job_listing (capacity_of s) (job_at feed_unit s text)) bytes (last ≡ pos 1))
  pub panel_start : (κs : Lfts 2) (words words' panel panel' : MutBor (List ℤ)) (p w xlo xhi ylo yhi n : ℤ)
      → StartsPanelFromC κs words words' panel panel' p w xlo xhi ylo yhi n
      → StartedPanel (settings_of p w xlo xhi ylo yhi) n words'.now panel'.now
  pub panel_read : (f : ReadCall) → ReadsFromC f → (k : Bench) → IsPanel f.words.now f.panel.now k
      → OwnRead (panel_in k f.panel.now) f
  -- all other words get 9, and nothing is written
  pub no_panel : (f : ReadCall) → ReadsFromC f → ((k : Bench) → ¬ (IsPanel f.words.now f.panel.now k)) → Unchanged (negsuc 8) f
  -- nor where a buffer is too short
  pub panel_short : (f : ReadCall) → ReadsFromC f → f.answer ≡ pos 2 → Unchanged (pos 2) f
  -- 02 §5: however the text is cut, whoever goes on from the words of a start gets the panel's listing, to the byte, and the answer 1 at
  -- its end
  pub panel_listing_lem : (κs : Lfts 2) (words words' panel panel' : MutBor (List ℤ)) (p w xlo xhi ylo yhi n : ℤ)
      → StartsPanelFromC κs words words' panel panel' p w xlo xhi ylo yhi n
      → (let s = settings_of p w xlo xhi ylo yhi in AllYes (settings_questions s)
      → (text left scratch bytes : List ℕ) (last : ℤ) (ws ps : List ℤ)
      → RowsReadToC text words'.now panel'.now left scratch bytes last ws ps
      → FrontOf (job_listing (capacity_of s) (panel_job s text)) bytes (last ≡ pos 1))
  -- words that a start or a call wrote are a panel's check, whatever the settings, so that the next call does not get 9,
  pub panel_keeps : (κs : Lfts 2) (words words' panel panel' : MutBor (List ℤ)) (p w xlo xhi ylo yhi n : ℤ)
      → StartsPanelFromC κs words words' panel panel' p w xlo xhi ylo yhi n
      → (text left scratch bytes : List ℕ) (last : ℤ) (ws ps : List ℤ)
      → RowsReadToC text words'.now panel'.now left scratch bytes last ws ps
      → (k : Bench) × IsPanel ws ps k
  -- and a loop that brings a byte or the end of the text at each call ends: so many of them answer 0 at most
  pub panel_ends : (κs : Lfts 2) (words words' panel panel' : MutBor (List ℤ)) (p w xlo xhi ylo yhi n : ℤ)
      → StartsPanelFromC κs words words' panel panel' p w xlo xhi ylo yhi n
      → (calls : ℕ) → MoreToC words'.now panel'.now calls
      → calls ≤ 131073
