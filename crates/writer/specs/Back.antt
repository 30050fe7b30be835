-- What becomes of the standard text where it is read (02, change 6).
-- Assumes nothing.
use Rattle.std.specs.Prelude.{ℕ, ◌≤◌, ◌≡◌, false, List, length, None}
use Rattle.areas.specs.Area.{token_area}
use Rattle.utf8.specs.Table.{utf8_error_lem}
use Rattle.tokens.specs.Token.{Token}
use Rattle.lexer.specs.Scan.{scanned, token_list}
use Rattle.ast.specs.Node.{Node}
use Rattle.pyhyeon.specs.Reading.{Work, Accepted, descent}
use Rattle.trees.specs.Law.{TreeOf}
use Rattle.standard.specs.Alike.{Alike}
use Rattle.standard.specs.Erase.{said}
use Rattle.standard.specs.Hollow.{any_hollow_lem}
use Rattle.standard.specs.Text.{standard_text}
use Rattle.reader.specs.Outcome.{tree_area, accepted, outcome}

-- a source that is accepted, with slices of these lengths: its tokens, its text, and the descent's work
pub record Read (source : List ℕ) (tokens text tree : ℕ) : Type 0 where
  pub toks : List Token
  pub bytes : List ℕ
  pub work : Work
  pub well_formed : utf8_error_lem source ≡ None
  pub scans : token_list source ≡ scanned toks bytes
  pub descends : descent source toks ≡ Accepted work
  pub is : outcome source tokens text tree ≡ accepted (length source) toks bytes work

-- "the text, read with room lent for its areas, is accepted with equal nodes in equal order, apart from places, with names and strings compared by bytes": so of the
-- text s beside the nodes ns of a source with these bytes of text. "writing that again gives the same text": no block of the tree that s has is empty, and its
-- standard text is s.
pub record Back (source bytes : List ℕ) (ns : List Node) (s : List ℕ) : Type 0 where
  pub toks' : List Token
  pub bytes' : List ℕ
  pub work' : Work
  pub scans : token_list s ≡ scanned toks' bytes'
  pub descends : descent s toks' ≡ Accepted work'
  pub accepts : (tokens text tree : ℕ) → length s ≤ 65536 → token_area (length s) ≤ tokens → length s ≤ text → tree_area (length s) ≤ tree →
      outcome s tokens text tree ≡ accepted (length s) toks' bytes' work'
  pub alike : Alike source bytes ns s bytes' work'.nodes
  pub again : TreeOf s toks' work'.nodes
  pub filled : any_hollow_lem work'.nodes ≡ false
  pub same_text : standard_text (said s bytes' again.tree) ≡ s

-- the tree of a source that was read, and its standard text, which is read back so
pub record Written {source : List ℕ} {tokens text tree : ℕ} (x : Read source tokens text tree) : Type 0 where
  pub of : TreeOf source x.toks x.work.nodes
  pub back : Back source x.bytes x.work.nodes (standard_text (said source x.bytes of.tree))
