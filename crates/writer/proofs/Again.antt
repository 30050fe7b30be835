-- "writing that again gives the same text" (02, change 6): whatever keeps the writer's promise for a text that is read back so writes that text.
-- Assumes nothing.
use mathlib.Core.Path.{◌≡◌, refl, ap, sym, subst, ◌∙◌}
use mathlib.Core.List.{List, [], ◌++◌}
use mathlib.Core.Bool.{true}
use Prim.Native.Nat.{ℕ, ◌-◌, ◌≤◌}
use native.Mathlib.Omega.{arith}
use borrow.Author.Tests.{le-ltb}
use lib.ListN.{length, replicate}
use Rattle.areas.specs.Area.{token_area}
use Rattle.tokens.specs.Token.{Token}
use Rattle.lexer.specs.Scan.{Scan, scanned, refused}
use Rattle.ast.specs.Node.{Node}
use Rattle.pyhyeon.specs.Reading.{Work, descent, work_of}
use Rattle.trees.specs.Law.{TreeOf}
use Rattle.standard.specs.Erase.{said}
use Rattle.standard.specs.Text.{standard_text}
use Rattle.reader.specs.Outcome.{Outcome, tree_area}
use Rattle.writing.specs.Written.{room}
use Rattle.writer.specs.Answer.{read_of}
use Rattle.writer.specs.Back.{Back}
use Rattle.writer.specs.Writes.{Result, result, accepts, Rewrites, Writes}
use Rattle.writer.specs.declared.Answer.{Answer}
use Rattle.writer.specs.declared.Answer.TheVariants.{Text}

tokens_in : Scan → List Token
tokens_in (scanned ts bs) = ts
tokens_in (refused n p) = []

bytes_in : Scan → List ℕ
bytes_in (scanned ts bs) = bs
bytes_in (refused n p) = []

module _ {source bytes : List ℕ} {ns : List Node} {s : List ℕ} (b : Back source bytes ns s) {r : Answer} {tokens₀ text₀ tree₀ out₀ tokens text tree out : List ℕ} (w : Writes s r tokens₀ text₀ tree₀ out₀ tokens text tree out)
    (short : length s ≤ 65536) (h : token_area (length s) ≤ length tokens₀) (i : length s ≤ length text₀) (j : tree_area (length s) ≤ length tree₀) (k : length s ≤ length out₀) where
  taken : accepts (read_of r) ≡ true
  taken = ap accepts (w.reads.answer ∙ ap (λ (y : Outcome). y.answer) (b.accepts (length tokens₀) (length text₀) (length tree₀) short h i j))

  x : Rewrites s (length tokens₀) (length text₀) (length tree₀) (read_of r) out₀ r out
  x = w.rewrites taken

  same_tokens : x.read.toks ≡ b.toks'
  unfolding tokens_in
  same_tokens = ap tokens_in (sym x.read.scans ∙ b.scans)

  same_bytes : x.read.bytes ≡ b.bytes'
  unfolding bytes_in
  same_bytes = ap bytes_in (sym x.read.scans ∙ b.scans)

  same_work : x.read.work ≡ b.work'
  same_work = ap work_of (sym x.read.descends ∙ ap (descent s) same_tokens ∙ b.descends)

  abbrev By : List Token → List ℕ → Work → Type 0
  By ts bs v = (t : TreeOf s ts v.nodes) → ◌≡◌ {A = Result} (record { answer = r; out = out }) (result (read_of r) v.nodes (standard_text (said s bs t.tree)) out₀)

  by : By b.toks' b.bytes' b.work'
  by = subst (By b.toks' b.bytes') same_work (subst (λ (bs : List ℕ). By b.toks' bs x.read.work) same_bytes (subst (λ (ts : List Token). By ts x.read.bytes x.read.work) same_tokens x.is))

  pub again_written : ◌≡◌ {A = Result} (record { answer = r; out = out }) (record { answer = Text (read_of r) (length s); out = s ++ replicate (length out₀ - length s) 0 })
  again_written =
      by b.again ∙ ap (λ (t : List ℕ). result (read_of r) b.work'.nodes t out₀) b.same_text ∙ rw (b.filled, le-ltb (room (length out₀)) (length s) (omega arith)) refl
