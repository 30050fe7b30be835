-- What the reader's private functions ask and promise. Only their contracts cite these; what the reader promises stands in Reads.antt.
-- Assumes nothing.
use Rattle.std.specs.Prelude.{ℕ, ◌+◌, ◌-◌, ◌*◌, ◌≤◌, ◌≡◌, Ok, List, ◌++◌, length, replicate}
use Rattle.areas.specs.Area.{token_area}
use Rattle.lexer.specs.Scan.{token_list}
use Rattle.lexer.specs.Words.{answer_of, words_of, text_bytes}
use Rattle.source.specs.Reasons.{reason_of}
use Rattle.source.specs.declared.refusal.Reason.{Reason}
use Rattle.pyhyeon.specs.Missing.{fault_number, fault_of}
use Rattle.leaves.specs.Contract.{asked_reason}
use Rattle.reader.specs.Outcome.{Area, kept, holds, Outcome, tree_area}
use Rattle.reader.specs.declared.Tree.{Tree}
use Rattle.reader.specs.Answer.{Answer}

-- slices that are the areas and no more, of a source that question 1 lets through
pub record Exact (src tokens text tree : List ℕ) : Type 0 where
  pub small : length src ≤ 65536
  pub tokens_long : length tokens ≡ token_area (length src)
  pub text_long : length text ≡ length src
  pub tree_long : length tree ≡ tree_area (length src)

-- an area of this size that holds these words, with zeros up to its end
unfoldable pub padded : ℕ → List ℕ → List ℕ
padded size filled = filled ++ replicate (size - length filled) 0

-- what the scanner left, where it counted so many tokens before Eof and so many bytes of text
pub record Held (src : List ℕ) (count used : ℕ) (tokens text : List ℕ) : Type 0 where
  pub small : length src ≤ 65536
  pub answer : Ok (record { count = count; text = used }) ≡ answer_of (token_list src)
  pub tokens_are : tokens ≡ padded (token_area (length src)) (words_of (token_list src))
  pub text_is : text ≡ padded (length src) (text_bytes (token_list src))

-- why a token of this code is refused, where the tree reader hands on k: 13, or what was asked for, which tells 14, 15 or 16 by that code (02, change 4)
pub record Tells (k : Reason) (code : ℕ) (r : Reason) : Type 0 where
  pub deep : k ≡ reason_of 13 → r ≡ reason_of 13
  pub unfit : (asked : List ℕ) → k ≡ asked_reason asked → r ≡ reason_of (fault_number (fault_of code asked))

-- the counts of an accepted source of n bytes
pub record Counted (n : ℕ) (t : Tree) : Type 0 where
  pub small : n ≤ 65536
  pub few_tokens : t.tokens ≤ n
  pub few_bytes : t.text ≤ n
  pub some : 1 ≤ t.nodes
  pub few_nodes : t.nodes ≤ 2 * t.tokens + 1
  pub few_openings : t.openings ≤ 10 * t.tokens + 1

-- a slice that is its area, after the work
abbrev pub Became : Area → ℕ → List ℕ → Type 0
Became kept size now = ⊥
Became (holds filled) size now = now ≡ padded size filled

-- the answer, and all of each area
pub record Fills (o : Outcome) (n : ℕ) (r : Answer) (tokens text tree : List ℕ) : Type 0 where
  pub answer : r ≡ o.answer
  pub tokens_are : Became o.tokens (token_area n) tokens
  pub text_is : Became o.text n text
  pub tree_is : Became o.tree (tree_area n) tree
