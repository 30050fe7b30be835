-- The program's input, read by read, and what is printed for it: "The program reads standard input up to 1,023 bytes and prints .. (.. longer input:
-- number 1, place 0)" (01, Scripts). 01 does not speak of a read that fails: nothing is printed then.
-- Assumes nothing.
use Rattle.std.specs.Prelude.{ℕ, ◌≤◌, Bool, true, false, cond, List, [], ◌∷◌, ◌++◌, ltb, Option, Some, None, length, take}
use Rattle.printing.specs.Printed.{printed_no}
use Rattle.listing.specs.Listing.{listing}
use Rattle.shell.specs.declared.Stage.{Stage}
use Rattle.shell.specs.declared.Stage.TheVariants.{Open, Whole, Longer, Failed}
use Rattle.shell.specs.declared.Reading.{Reading}

-- What a read that is lent n bytes may answer: how many bytes it put there (POSIX, `read`: "the number of bytes actually read", which "shall never be
-- greater than nbyte"), or none where it failed ("Otherwise, the functions shall return -1")
abbrev pub Moved : ℕ → Option ℕ → Type 0
Moved n (Some k) = k ≤ n
Moved n None = Unit {0}

-- what one read hands back: a failure, or bytes, and none of them at the end of the input
pub data Handed : Type 0 where
  failure : Handed
  bytes : List ℕ → Handed

-- the same of a call's count, which a failure does not have, and of the chunk that it filled from the front
abbrev pub handed : Option ℕ → List ℕ → Handed
handed (Some n) chunk = bytes (take n chunk)
handed None chunk = failure

-- the input so far: its front, with the end still to come, all of it, more than is taken, or what can't be read
pub data Input : Type 0 where
  front : List ℕ → Input
  whole : List ℕ → Input
  longer : Input
  failed : Input

-- one read more: "up to 1,023 bytes"
unfoldable pub heard : Input → Handed → Input
heard (front l) failure = failed
heard (front l) (bytes []) = whole l
heard (front l) (bytes (x ∷ xs)) = cond (ltb 1023 (length (l ++ (x ∷ xs)))) longer (front (l ++ (x ∷ xs)))
heard (whole l) h = whole l
heard longer h = longer
heard failed h = failed

-- what is printed for an input that is no longer open: "longer input: number 1, place 0"
abbrev pub shown : Input → List ℕ
shown (front l) = []
shown (whole l) = listing l
shown longer = printed_no 1 0
shown failed = []

-- the end is still to come
abbrev pub is_open_lem : Input → Bool
is_open_lem (front l) = true
is_open_lem (whole l) = false
is_open_lem longer = false
is_open_lem failed = false

-- a read failed
abbrev pub has_failed_lem : Input → Bool
has_failed_lem (front l) = false
has_failed_lem (whole l) = false
has_failed_lem longer = false
has_failed_lem failed = true

-- the input that a state of the code stands for
abbrev pub input_of : Stage → List ℕ → Input
input_of Open l = front l
input_of Whole l = whole l
input_of Longer l = longer
input_of Failed l = failed

-- its stage, with the bytes that were read
abbrev pub input : Reading → Input
input r = input_of r.stage (take r.len r.script)
