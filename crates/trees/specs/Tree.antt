-- Trees: what the flat nodes of a script are the layout of (specs/Flat.antt).
-- Assumes nothing.
use Rattle.std.specs.Prelude.{ℕ, ◌≡◌, List, [], ◌∷◌}
use Rattle.ast.specs.Node.{Field, fields_of}
use Rattle.ast.specs.Node as field

-- what the four fields of this kind hold, by the table of nodes
abbrev pub shape : ℕ → List Field
shape k = (fields_of k).p ∷ (fields_of k).q ∷ (fields_of k).r ∷ (fields_of k).s ∷ []

-- a node with all below it; comparisons in a chain; a list in the making; a whole list; fields of a node, from some field on
pub data Part : Type 0 where
  single chain growing whole : Part
  row : List Field → Part

-- One family, so that what is shown of trees is one induction, and one constructor for all the kinds that the table tells apart.
-- Lists and chains grow on the right, as they are read. A span is its start and its end.
pub data Tree : Part → Type 0 where
  node : (kind start end : ℕ) {fs : List Field} → shape kind ≡ fs → Tree (row fs) → Tree single
  chained : Tree chain → Tree single
  -- fields
  done : Tree (row [])
  unused : {fs : List Field} → Tree (row fs) → Tree (row (field.unused ∷ fs))
  word : {fs : List Field} → ℕ → Tree (row fs) → Tree (row (field.word ∷ fs))
  child : {fs : List Field} → Tree single → Tree (row fs) → Tree (row (field.node ∷ fs))
  kids : {fs : List Field} → Tree whole → Tree (row fs) → Tree (row (field.list ∷ fs))
  other : {fs : List Field} → Tree whole → Tree (row fs) → Tree (row (field.maybe ∷ fs))
  -- lists
  nil : Tree whole
  full : Tree growing → Tree whole
  one : Tree single → Tree growing
  more : Tree growing → Tree single → Tree growing
  -- chains: the first comparison, with its span and operator; a further one, with the span of its And, its own span, and its operator
  first : (start end op : ℕ) → Tree single → Tree single → Tree chain
  link : (start end start' end' op : ℕ) → Tree chain → Tree single → Tree chain
