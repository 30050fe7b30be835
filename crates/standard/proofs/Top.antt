-- The join: of every accepted script one tree, and any source whose tokens spell what it says is accepted with nodes that are alike.
-- Assumes nothing.
use mathlib.Core.Path.{◌≡◌, ap, sym, ◌∙◌}
use mathlib.Core.List.{List, [], ◌∷◌, map}
use Prim.Native.Nat.{ℕ, ◌≤◌}
use Rattle.token.specs.Code.{Eof}
use Rattle.tokens.specs.Token.{Token}
use Rattle.ast.specs.Node.{Node, none}
use Rattle.lexer.specs.Scan.{token_list, scanned}
use Rattle.pyhyeon.specs.Tables.{depth}
use Rattle.pyhyeon.specs.Reading.{Work, Accepted, descent}
use Rattle.trees.specs.Law.{TreeOf}
use Rattle.unparse.specs.Levels.{X}
use Rattle.unparse.proofs.Write.{write, need}
use Rattle.standard.specs.Erase.{said}
use Rattle.standard.specs.Alike.{shade, Alike}
use Rattle.standard.specs.Bare.{bare, onto_b}
use Rattle.standard.specs.Plant.{plant}
use Rattle.standard.proofs.Signs.{plain, signs}
use Rattle.standard.proofs.SignIn.{sign_in}
use Rattle.standard.proofs.Scan.{plain_tokens}
use Rattle.standard.proofs.Reading.{accepted_said}
use Rattle.standard.proofs.Shades.{flat_is}
use Rattle.standard.proofs.Planted.{planted}
use Rattle.standard.proofs.Again.{again}

-- trees that say the same have nodes that are alike
same_alike : (source text : List ℕ) (toks : List Token) (ns : List Node) (of : TreeOf source toks ns) (source' text' : List ℕ) (toks' : List Token) (ns' : List Node) (of' : TreeOf source' toks' ns') →
    said source text of.tree ≡ said source' text' of'.tree → Alike source text ns source' text' ns'
same_alike source text toks ns of source' text' toks' ns' of' e =
    let t = of.tree in
    let t' = of'.tree in
    let b : bare source text [] t ≡ bare source' text' [] t' = sym (planted source text toks t of.proper) ∙ ap plant e ∙ planted source' text' toks' t' of'.proper in
    ap (map (shade source text)) of.is ∙ flat_is source text t ∙ ap (onto_b [] 0 none) b ∙ sym (flat_is source' text' t') ∙ ap (map (shade source' text')) (sym of'.is)

-- What reading another source comes to, where it says what the tree of an accepted one does. ns: the nodes of the one source, and their tree; beside them the
-- other source, its tokens and its text.
pub record Rewritten (source text : List ℕ) {toks : List Token} {ns : List Node} (of : TreeOf source toks ns) (source' : List ℕ) (toks' : List Token) (text' : List ℕ) : Type 0 where
  pub work : Work
  pub accepted : descent source' toks' ≡ Accepted work
  pub again : TreeOf source' toks' work.nodes
  pub same : said source' text' again.tree ≡ said source text of.tree
  pub alike : Alike source text ns source' text' work.nodes

-- the tree of these nodes, which needs no more room than there is, and any source whose tokens have the signs that it is written as
pub record Standing (source text : List ℕ) (toks : List Token) (ns : List Node) : Type 0 where
  pub of : TreeOf source toks ns
  pub deep : need X (said source text of.tree) ≤ depth
  pub rewritten : (source' : List ℕ) (toks' : List Token) (text' : List ℕ) → token_list source' ≡ scanned toks' text' →
      map (sign_in source' text') toks' ≡ signs (write X (said source text of.tree)) (plain Eof ∷ []) → Rewritten source text of source' toks' text'

pub script_stands : (source : List ℕ) (toks : List Token) (text : List ℕ) → token_list source ≡ scanned toks text → (w : Work) → descent source toks ≡ Accepted w → Standing source text toks w.nodes
script_stands source toks text e w a =
    let d = accepted_said source text toks (plain_tokens source toks text e) w a in
    record {
      of = d.of;
      deep = d.deep;
      rewritten = λ source' toks' text' e' h.
          let g = again source' text' toks' (plain_tokens source' toks' text' e') (said source text d.of.tree) d.deep h in
          record {
            work = g.work;
            accepted = g.accepted;
            again = g.reading.of;
            same = g.same;
            alike = same_alike source text toks w.nodes d.of source' text' toks' g.work.nodes g.reading.of (sym g.same);
          };
    }
