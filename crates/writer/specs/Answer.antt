-- The numbers of the writer's answer (02, change 6).
-- Assumes nothing.
use Rattle.std.specs.Prelude.{ℕ}
use Rattle.reader.specs.Answer as reader
use Rattle.writer.specs.declared.Answer.{Answer}
use Rattle.writer.specs.declared.Answer.TheVariants.{Text, Hollow, Full, Unread}

-- the reader's six numbers, with the writer's number in their place where it refuses, and the length of the text
pub record Numbers : Type 0 where
  pub six : reader.Numbers
  pub length : ℕ

-- "a number without a named place has place 0"; "a part's refusal leaves the accepted tree", and so its counts
abbrev pub instead : ℕ → reader.Numbers → reader.Numbers
instead number a = record { number = number; place = 0; tokens = a.tokens; nodes = a.nodes; text = a.text; openings = a.openings }

-- "a text written is answered by 0 and its length"; "17 where some block has no statement and then 18 where the text is longer than the lent slice or than 65,536
-- bytes"
abbrev pub numbers_of : Answer → Numbers
numbers_of (Text a m) = record { six = reader.numbers_of a; length = m }
numbers_of (Hollow a) = record { six = instead 17 (reader.numbers_of a); length = 0 }
numbers_of (Full a) = record { six = instead 18 (reader.numbers_of a); length = 0 }
numbers_of (Unread a) = record { six = reader.numbers_of a; length = 0 }

-- what the reader answered
abbrev pub read_of : Answer → reader.Answer
read_of (Text a m) = a
read_of (Hollow a) = a
read_of (Full a) = a
read_of (Unread a) = a
