-- 01, Questions, "Job text": questions 31 to 37 as tests. Crate demands says them in the paper's words.
use Rattle.std.specs.Prelude.{Bool, cond, not, ◌&&◌, ◌||◌, ℕ, ◌*◌, ◌%◌, leb, eqb, Option}
use Rattle.whole.specs.computed.Ask.{ask}
use Rattle.letters.specs.declared.word.Word.{Word}
use Rattle.letters.specs.declared.word.Words.{Words}
use Rattle.words.specs.declared.line.Line.{Line}
use Rattle.reader.specs.declared.Motion.{Motion}
use Rattle.reader.specs.declared.Reader.{Reader}
use Rattle.reader.specs.Reader.{end_stands, centre_stands, moving, motion_known}
use Rattle.reader.specs.Reader.{feed_known, is_arc}

-- "is the text at most 65,536 bytes (asked once, line 1)? 30."
abbrev pub longest_text : ℕ
longest_text = 65536

-- "Is the line at most 80 bytes without its LF (byte 10)? 31."
abbrev pub longest_line : ℕ
longest_line = 80

-- "Is G 1, 2 or 3? 34."
abbrev pub motion_right : Word → Bool
motion_right g = not g.stands || (leb 1 g.magnitude && leb g.magnitude 3)

-- "Do X, Y, I, J fall on whole pulses? 35." A word is in thousandths of a millimetre, p in pulses per millimetre.
abbrev pub on_pulse : (p : ℕ) → Word → Bool
on_pulse p w = eqb (w.magnitude * p % 1000) 0

abbrev pub all_on_pulse : (p : ℕ) → Words → Bool
all_on_pulse p ws = on_pulse p ws.x && (on_pulse p ws.y && (on_pulse p ws.i && on_pulse p ws.j))

-- "If one of those four stands, are a G and an F known? 36."
abbrev pub all_known : Reader → Words → Bool
all_known k ws = not (moving ws) || (motion_known k.motion && feed_known k.feed)

-- "Do I or J stand only under G 2 or 3, and does a line under 2 or 3 with X or Y have I or J? 37."
abbrev pub centre_right : Option Motion → Words → Bool
centre_right m ws = cond (is_arc m) (not (end_stands ws) || centre_stands ws) (not (centre_stands ws))

-- from 31 on, "each question over the whole line before the next"; k is the reader after the line
unfoldable pub line_no : (p : ℕ) → Reader → (bytes : ℕ) → Line → ℕ
line_no p k bytes l =
    ask (leb bytes longest_line)
    (ask l.formed
    (ask l.once
    (ask (motion_right l.words.g)
    (ask (all_on_pulse p l.words)
    (ask (all_known k l.words)
    (ask (centre_right k.motion l.words) 0 37)
    36) 35) 34) 33) 32) 31
