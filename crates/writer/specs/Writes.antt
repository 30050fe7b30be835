-- What the writer promises: one record, with a field for each promise (02, change 6).
-- Assumes nothing.
use Rattle.std.specs.Prelude.{ℕ, ◌-◌, ◌≡◌, Bool, true, false, cond, List, ◌++◌, ltb, Ok, Err, length, take, replicate}
use Rattle.ast.specs.Node.{Node}
use Rattle.trees.specs.Law.{TreeOf}
use Rattle.standard.specs.Erase.{said}
use Rattle.standard.specs.Hollow.{any_hollow_lem}
use Rattle.standard.specs.Text.{standard_text}
use Rattle.reader.specs.Reads.{Reads}
use Rattle.writing.specs.Written.{room}
use Rattle.reader.specs.Answer as reader
use Rattle.writer.specs.Answer.{Numbers, instead, numbers_of, read_of}
use Rattle.writer.specs.Back.{Read, Back}
use Rattle.writer.specs.declared.Answer.{Answer}
use Rattle.writer.specs.declared.Answer.TheVariants.{Text, Hollow, Full, Unread}

-- the answer, and all of the fourth slice afterwards
pub record Result : Type 0 where
  pub answer : Answer
  pub out : List ℕ

-- Where the reader accepts, with the answer a, these nodes and the standard text s: "the writer answers 17 where some block has no statement and then 18 where the text
-- is longer than the lent slice or than 65,536 bytes; both zero that slice"; "a text written is answered by 0 and its length, the slice past it zeroed"
abbrev pub by_tests : reader.Answer → List ℕ → List ℕ → (hollow long : Bool) → Result
by_tests a s out₀ hollow long =
    cond hollow (record { answer = Hollow a; out = replicate (length out₀) 0 })
    (cond long (record { answer = Full a; out = replicate (length out₀) 0 })
    (record { answer = Text a (length s); out = s ++ replicate (length out₀ - length s) 0 }))

abbrev pub result : reader.Answer → List Node → List ℕ → List ℕ → Result
result a ns s out₀ = by_tests a s out₀ (any_hollow_lem ns) (ltb (room (length out₀)) (length s))

-- the numbers, by the same two tests: 17, 18, or "0 and its length", each with place 0
abbrev pub numbers_by : reader.Numbers → ℕ → (hollow long : Bool) → Numbers
numbers_by a m hollow long = cond hollow (record { six = instead 17 a; length = 0 }) (cond long (record { six = instead 18 a; length = 0 }) (record { six = instead 0 a; length = m }))

-- the reader accepts
abbrev pub accepts : reader.Answer → Bool
accepts (Ok t) = true
accepts (Err s) = false

-- An accepted source, with slices of these lengths, the reader's answer a, and the fourth slice before.
pub record Rewrites (src : List ℕ) (tokens text tree : ℕ) (a : reader.Answer) (out₀ : List ℕ) (r : Answer) (out : List ℕ) : Type 0 where
  -- its tokens, text and nodes, and a tree of these
  pub read : Read src tokens text tree
  pub of : TreeOf src read.toks read.work.nodes
  -- "From an accepted source and its tree, a writer gives the one standard text": for every tree of these nodes
  pub is : (t : TreeOf src read.toks read.work.nodes) → record { answer = r; out = out } ≡ result a read.work.nodes (standard_text (said src read.bytes t.tree)) out₀
  -- the same in numbers (specs/Answer.antt), with the reader's counts
  pub numbers : (t : TreeOf src read.toks read.work.nodes) →
      let s = standard_text (said src read.bytes t.tree) in numbers_of r ≡ numbers_by (reader.numbers_of a) (length s) (any_hollow_lem read.work.nodes) (ltb (room (length out₀)) (length s))
  -- "For every accepted tree that it doesn't refuse, the text .. is accepted with equal nodes in equal order, apart from places ..; writing that again gives the same
  -- text": the m bytes in front of the slice
  pub back : (m : ℕ) → r ≡ Text a m → Back src read.bytes read.work.nodes (take m out)

-- The answer r to a source, and the four slices before and after.
pub record Writes (src : List ℕ) (r : Answer) (tokens₀ text₀ tree₀ out₀ tokens text tree out : List ℕ) : Type 0 where
  -- "a part's refusal leaves the accepted tree": whatever the writer answers, what the reader answered and the three slices lent to it are the reader's
  pub reads : Reads src (read_of r) tokens₀ text₀ tree₀ tokens text tree
  -- "a refusal by the reader leaves the part's own slice"
  pub unread : accepts (read_of r) ≡ false → (r ≡ Unread (read_of r)) × (out ≡ out₀)
  -- its numbers are the reader's then, with no length
  pub refused : accepts (read_of r) ≡ false → numbers_of r ≡ record { six = reader.numbers_of (read_of r); length = 0 }
  -- "Once the reader has accepted"
  pub rewrites : accepts (read_of r) ≡ true → Rewrites src (length tokens₀) (length text₀) (length tree₀) (read_of r) out₀ r out
