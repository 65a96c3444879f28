-- What a text line answers in C and the words after it, for any words whatever.
use Rattle.std.specs.Prelude.{cond, ◌&&◌, List, ℕ, ℤ, negsuc}
use Rattle.block.specs.declared.Block.{Block}
use Rattle.machine.specs.declared.Machine.{Machine}
use Rattle.reader.specs.declared.Reader.{Reader}
use Rattle.reader.specs.declared.asked.ToLoad.{ToLoad}
use Rattle.textline.specs.declared.ReadLine.{ReadLine}
use Rattle.textline.specs.computed.TextLine.{takes, read_line_of}
use Rattle.record.specs.Words.{encode_of, over}
use Rattle.record.specs.computed.Words.{machine_in, sound_words}
use Rattle.progress.specs.Known.{encode_known}
use Rattle.progress.specs.computed.Known.{decode_known}
use Rattle.cmachine.specs.declared.text.Heard.{Heard}
use Rattle.cmachine.specs.Texts.{read_number}

-- the answer, the words of the record and of what is known after it
pub record ToldLine : Type 0 where
  pub answer : ℤ
  pub words : List ℤ
  pub known : List ℤ

abbrev pub tells_line : (answer : ℤ) (words known : List ℤ) → ToldLine
tells_line n ws ks = record { answer = n; words = ws; known = ks }

-- the record's words go to the front of the caller's; those behind them stay
abbrev pub line_told : (before : List ℤ) → ReadLine → ToldLine
line_told ws r = tells_line (read_number r.answer) (over (encode_of r.machine) ws) (encode_known r.reader)

-- Words of no sound record, and words that tell nothing known, get 9 and stay as they are.
unfoldable pub told_line_of : (ws ks : List ℤ) (line : List ℕ) → ToldLine
told_line_of ws ks line =
    cond (sound_words ws && (decode_known ks).ok)
    (line_told ws (read_line_of (decode_known ks).reader (machine_in ws) line))
    (tells_line (negsuc 8) ws ks)

-- ---- inner functions' answers

abbrev pub heard_of : ReadLine → Heard
heard_of r = record { read = r.answer; reader = r.reader }

-- of a line that asks for a block
abbrev pub loads_of : (before after : Reader) → Machine → Block → ReadLine
loads_of k k' m b = takes k k' m (ToLoad.Block b)
