-- What the writer's private functions ask and promise. Only their contracts cite these; what the writer promises stands in Writes.antt.
-- Assumes nothing.
use Rattle.std.specs.Prelude.{ℕ, ◌+◌, ◌*◌, ◌≤◌, ◌≡◌, List, length}
use Rattle.tokens.specs.Token.{Token}
use Rattle.lexer.specs.Scan.{scanned, token_list}
use Rattle.ast.specs.Node.{none}
use Rattle.ast.specs.Words.{nodes_of}
use Rattle.trees.specs.Law.{TreeOf}
use Rattle.standard.specs.Erase.{said}
use Rattle.standard.specs.Text.{standard_text}
use Rattle.reader.specs.Answer as reading
use Rattle.writer.specs.Writes.{result}
use Rattle.writer.specs.declared.Answer.{Answer}

-- the words of a source that the reader accepted: its strings are all of `text`, its nodes the first of `tree`
pub record Accepted (src text tree : List ℕ) (nodes : ℕ) : Type 0 where
  pub toks : List Token
  pub scans : token_list src ≡ scanned toks text
  pub of : TreeOf src toks (nodes_of tree nodes)
  pub held : 8 * nodes + 8 ≤ length tree
  pub few : nodes ≤ none

-- the answer r and the fourth slice afterwards, by every tree of the nodes
abbrev pub Rewritten : reading.Answer → (src text tree : List ℕ) → ℕ → List ℕ → Answer → List ℕ → Type 0
Rewritten a src text tree nodes out r out' =
    (toks : List Token) → token_list src ≡ scanned toks text → (t : TreeOf src toks (nodes_of tree nodes)) →
    record { answer = r; out = out' } ≡ result a (nodes_of tree nodes) (standard_text (said src text t.tree)) out
