-- What specs/ says that each call promises (of a check, a stream, a panel's check, and for C) is what the checker hands to a caller of it,
-- `Learnt`: the two are one type, by computing. A clause in src/ that says anything else makes its line fail here.
use Rattle.std.specs.Prelude.{◌≡◌, refl, Bool, List, ℕ, ℤ}
use Rattle.std.specs.Borrow.{Bor, MutBor}
use contract.Lifetimes.{Lfts}
use Rattle.circle.specs.declared.plane.Turn.{Turn}
use Rattle.block.specs.declared.Path.{Path}
use Rattle.bench.specs.declared.Bench.{Bench}
use Rattle.job.specs.declared.Check.{Check}
use Rattle.job.specs.declared.Filled.{Filled}
use Rattle.stream.specs.declared.Stream.{Stream}
use Rattle.stream.specs.declared.Filled.{Filled as Streamed}
use Rattle.panel.specs.declared.PanelCheck.{PanelCheck}
use Rattle.panel.specs.declared.PieceRead.{PieceRead}
use Rattle.calls.specs.Calls.{WordCall}
use Rattle.cmachine.specs.Given.{arc_path, block_given}
use Rattle.job.proofs.Check.start.Reads as check_start
use Rattle.job.proofs.Check.fill.Reads as check_fill
use Rattle.job.proofs.Check.is_over.Reads as check_over
use Rattle.stream.proofs.Stream.start.Reads as stream_start
use Rattle.stream.proofs.Stream.fill.Reads as stream_fill
use Rattle.panel.proofs.PanelCheck.start.Reads as panel_start
use Rattle.panel.proofs.PanelCheck.read.Reads as panel_read
use Rattle.panel.proofs.PanelCheck.is_over.Reads as panel_over
use Rattle.ccheck.proofs.vz_check_start.Reads as c_check_start
use Rattle.ccheck.proofs.vz_check_fill.Reads as c_check_fill
use Rattle.cpanel.proofs.vz_panel_start.Reads as c_panel_start
use Rattle.cpanel.proofs.vz_panel_read.Reads as c_panel_read
use Rattle.cmachine.proofs.vz_make.Reads as c_make
use Rattle.cmachine.proofs.vz_load_line.Reads as c_line
use Rattle.cmachine.proofs.vz_load_cw.Reads as c_cw
use Rattle.cmachine.proofs.vz_load_ccw.Reads as c_ccw
use Rattle.cmachine.proofs.vz_tick.Reads as c_tick
use Rattle.cmachine.proofs.vz_run.Reads as c_run
use Rattle.cmachine.proofs.vz_hold.Reads as c_hold
use Rattle.cmachine.proofs.vz_release.Reads as c_release
use Rattle.cmachine.proofs.vz_stop.Reads as c_stop
use Rattle.cmachine.proofs.lookahead.vz_ahead.Reads as c_ahead
use Rattle.cmachine.proofs.text.vz_read_line.Reads as c_text
use Rattle.demands.specs.Texts.{Starts, FillsCheck, TellsOver}
use Rattle.demands.specs.TickBytes.{StartsStream, FillsStream}
use Rattle.demands.specs.Panel.{StartsPanel, ReadsPanel, TellsPanelOver}
use Rattle.demands.specs.CheckFromC.{StartsFromC, FillsFromC}
use Rattle.demands.specs.PanelFromC.{StartsPanelFromC, ReadCall, ReadsFromC}
use Rattle.demands.specs.FromC.{MakesFromC, CallsFromC, RunsFromC, LooksFromC, ReadsLineFromC}

-- ---- a check

pub starts_is : (m : Bench) (c : Check) → Starts m c ≡ check_start.Learnt tt (m, tt) c (m, tt)
starts_is m c = refl

pub fills_check_is : (κs : Lfts 2) (c : Check) (text : Bor (List ℕ)) (out out' : MutBor (List ℕ)) (f : Filled)
    → FillsCheck κs c text out out' f ≡ check_fill.Learnt κs (c, (text, (out, tt))) f (c, (text, (out', tt)))
fills_check_is κs c text out out' f = refl

pub tells_over_is : (c : Check) (r : Bool) → TellsOver c r ≡ check_over.Learnt tt (c, tt) r (c, tt)
tells_over_is c r = refl

-- ---- a stream

pub starts_stream_is : (m : Bench) (t : Stream) → StartsStream m t ≡ stream_start.Learnt tt (m, tt) t (m, tt)
starts_stream_is m t = refl

pub fills_stream_is : (κs : Lfts 2) (t : Stream) (text : Bor (List ℕ)) (out out' : MutBor (List ℕ)) (f : Streamed)
    → FillsStream κs t text out out' f ≡ stream_fill.Learnt κs (t, (text, (out, tt))) f (t, (text, (out', tt)))
fills_stream_is κs t text out out' f = refl

-- ---- a panel's check

pub starts_panel_is : (m : Bench) (c : PanelCheck) → StartsPanel m c ≡ panel_start.Learnt tt (m, tt) c (m, tt)
starts_panel_is m c = refl

pub reads_panel_is : (κs : Lfts 3) (c : PanelCheck) (scratch free : MutBor (List ℕ)) (piece : Bor (List ℕ)) (last : Bool)
    (rows rows' : MutBor (List ℕ)) (f : PieceRead)
    → ReadsPanel κs c scratch free piece last rows rows' f
    ≡ panel_read.Learnt κs (c, (scratch, (piece, (last, (rows, tt))))) f (c, (free, (piece, (last, (rows', tt)))))
reads_panel_is κs c scratch free piece last rows rows' f = refl

pub tells_panel_over_is : (c : PanelCheck) (r : Bool) → TellsPanelOver c r ≡ panel_over.Learnt tt (c, tt) r (c, tt)
tells_panel_over_is c r = refl

-- ---- the calls for C

pub starts_from_c_is : (κs : Lfts 2) (words words' progress progress' : MutBor (List ℤ)) (p w xlo xhi ylo yhi n : ℤ)
    → StartsFromC κs words words' progress progress' p w xlo xhi ylo yhi n
    ≡ c_check_start.Learnt κs (words, (progress, (p, (w, (xlo, (xhi, (ylo, (yhi, tt)))))))) n
    (words', (progress', (p, (w, (xlo, (xhi, (ylo, (yhi, tt))))))))
starts_from_c_is κs words words' progress progress' p w xlo xhi ylo yhi n = refl

pub fills_from_c_is : (κs : Lfts 5) (ws ws' ps ps' : MutBor (List ℤ)) (text : Bor (List ℕ)) (out out' : MutBor (List ℕ))
    (len len' : MutBor ℕ) (n : ℤ)
    → FillsFromC κs ws ws' ps ps' text out out' len len' n
    ≡ c_check_fill.Learnt κs (ws, (ps, (text, (out, (len, tt))))) n (ws', (ps', (text, (out', (len', tt)))))
fills_from_c_is κs ws ws' ps ps' text out out' len len' n = refl

pub starts_panel_from_c_is : (κs : Lfts 2) (words words' panel panel' : MutBor (List ℤ)) (p w xlo xhi ylo yhi n : ℤ)
    → StartsPanelFromC κs words words' panel panel' p w xlo xhi ylo yhi n
    ≡ c_panel_start.Learnt κs (words, (panel, (p, (w, (xlo, (xhi, (ylo, (yhi, tt)))))))) n
    (words', (panel', (p, (w, (xlo, (xhi, (ylo, (yhi, tt))))))))
starts_panel_from_c_is κs words words' panel panel' p w xlo xhi ylo yhi n = refl

pub reads_from_c_is : (f : ReadCall) → ReadsFromC f
    ≡ c_panel_read.Learnt f.lifetimes
    (f.words, (f.panel, (f.scratch, (f.piece, (f.last, (f.rows, (f.took, (f.written, tt)))))))) f.answer
    (f.words', (f.panel', (f.free, (f.piece, (f.last, (f.rows', (f.took', (f.written', tt))))))))
reads_from_c_is f = refl

pub makes_from_c_is : (κs : Lfts 1) (words words' : MutBor (List ℤ)) (p w xlo xhi ylo yhi n : ℤ)
    → MakesFromC κs words words' p w xlo xhi ylo yhi n
    ≡ c_make.Learnt κs (words, (p, (w, (xlo, (xhi, (ylo, (yhi, tt))))))) n (words', (p, (w, (xlo, (xhi, (ylo, (yhi, tt)))))))
makes_from_c_is κs words words' p w xlo xhi ylo yhi n = refl

pub line_from_c_is : (κs : Lfts 1) (words words' : MutBor (List ℤ)) (x y feed n : ℤ)
    → CallsFromC κs (WordCall.load (block_given Path.Line x y feed)) words words' n
    ≡ c_line.Learnt κs (words, (x, (y, (feed, tt)))) n (words', (x, (y, (feed, tt))))
line_from_c_is κs words words' x y feed n = refl

pub clockwise_from_c_is : (κs : Lfts 1) (words words' : MutBor (List ℤ)) (x y feed i j n : ℤ)
    → CallsFromC κs (WordCall.load (block_given (arc_path Turn.Clockwise i j) x y feed)) words words' n
    ≡ c_cw.Learnt κs (words, (x, (y, (feed, (i, (j, tt)))))) n (words', (x, (y, (feed, (i, (j, tt))))))
clockwise_from_c_is κs words words' x y feed i j n = refl

pub counterclockwise_from_c_is : (κs : Lfts 1) (words words' : MutBor (List ℤ)) (x y feed i j n : ℤ)
    → CallsFromC κs (WordCall.load (block_given (arc_path Turn.Counterclockwise i j) x y feed)) words words' n
    ≡ c_ccw.Learnt κs (words, (x, (y, (feed, (i, (j, tt)))))) n (words', (x, (y, (feed, (i, (j, tt))))))
counterclockwise_from_c_is κs words words' x y feed i j n = refl

pub tick_from_c_is : (κs : Lfts 1) (words words' : MutBor (List ℤ)) (n : ℤ)
    → CallsFromC κs WordCall.tick words words' n ≡ c_tick.Learnt κs (words, tt) n (words', tt)
tick_from_c_is κs words words' n = refl

pub hold_from_c_is : (κs : Lfts 1) (words words' : MutBor (List ℤ)) (n : ℤ)
    → CallsFromC κs WordCall.hold words words' n ≡ c_hold.Learnt κs (words, tt) n (words', tt)
hold_from_c_is κs words words' n = refl

pub release_from_c_is : (κs : Lfts 1) (words words' : MutBor (List ℤ)) (n : ℤ)
    → CallsFromC κs WordCall.release words words' n ≡ c_release.Learnt κs (words, tt) n (words', tt)
release_from_c_is κs words words' n = refl

pub stop_from_c_is : (κs : Lfts 1) (words words' : MutBor (List ℤ)) (n : ℤ)
    → CallsFromC κs WordCall.stop words words' n ≡ c_stop.Learnt κs (words, tt) n (words', tt)
stop_from_c_is κs words words' n = refl

pub runs_from_c_is : (κs : Lfts 3) (words words' : MutBor (List ℤ)) (budget : ℕ) (out out' : MutBor (List ℕ))
    (ticks ticks' : MutBor ℕ) (n : ℤ)
    → RunsFromC κs words words' budget out out' ticks ticks' n
    ≡ c_run.Learnt κs (words, (budget, (out, (ticks, tt)))) n (words', (budget, (out', (ticks', tt))))
runs_from_c_is κs words words' budget out out' ticks ticks' n = refl

pub looks_from_c_is : (κs : Lfts 3) (words : Bor (List ℤ)) (then then' sums sums' : MutBor (List ℤ)) (ticks : ℕ) (n : ℤ)
    → LooksFromC κs words then then' sums sums' ticks n
    ≡ c_ahead.Learnt κs (words, (ticks, (then, (sums, tt)))) n (words, (ticks, (then', (sums', tt))))
looks_from_c_is κs words then then' sums sums' ticks n = refl

pub reads_line_from_c_is : (κs : Lfts 3) (words words' known known' : MutBor (List ℤ)) (line : Bor (List ℕ)) (n : ℤ)
    → ReadsLineFromC κs words words' known known' line n
    ≡ c_text.Learnt κs (words, (known, (line, tt))) n (words', (known', (line, tt)))
reads_line_from_c_is κs words words' known known' line n = refl
