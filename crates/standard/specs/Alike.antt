-- Of two trees, "equal nodes in equal order, apart from places, with names and strings compared by bytes" (02, change 6).
-- Assumes nothing.
use Rattle.std.specs.Prelude.{ℕ, ◌+◌, ◌≡◌, Bool, true, false, cond, List, [], ◌∷◌, map, eqb}
use Rattle.source.specs.Bytes.{part}
use Rattle.grammar.specs.Sets.{mem}
use Rattle.ast.specs.Kind as kind
use Rattle.ast.specs.Node.{Node}

-- A node apart from places: its kind, its next, its four fields with 0 for what is a place, and the bytes that stand at that place.
pub record Shade : Type 0 where
  pub kind : ℕ
  pub next : ℕ
  pub fields : List ℕ
  pub bytes : List ℕ

-- which of the four fields are a place (01, Tree): "Names are start and end in the source", "20 String (p offset, q length in the text)"; and 02, change 3:
-- "A Float record carries in r and s the start and end of its token"
abbrev pub places : ℕ → List Bool
places k =
    cond (mem k (kind.For ∷ kind.Def ∷ kind.Class ∷ kind.Method ∷ kind.Name ∷ kind.String ∷ kind.Variable ∷ [])) (true ∷ true ∷ [])
    (cond (eqb k kind.Attribute) (false ∷ true ∷ true ∷ [])
    (cond (eqb k kind.Float) (false ∷ false ∷ true ∷ true ∷ []) []))

-- the fields, with 0 for each that is a place; and those that are one
abbrev pub hidden : List Bool → List ℕ → List ℕ
hidden [] ws = ws
hidden (b ∷ bs) [] = []
hidden (b ∷ bs) (w ∷ ws) = cond b 0 w ∷ hidden bs ws

abbrev pub chosen : List Bool → List ℕ → List ℕ
chosen [] ws = []
chosen (b ∷ bs) [] = []
chosen (b ∷ bs) (w ∷ ws) = cond b (w ∷ chosen bs ws) (chosen bs ws)

-- the bytes at this place of a node of the kind k: of a String in the text, of any other in the source
abbrev pub bytes_at : List ℕ → List ℕ → ℕ → List ℕ → List ℕ
bytes_at source text k [] = []
bytes_at source text k (a ∷ []) = []
bytes_at source text k (a ∷ b ∷ l) = cond (eqb k kind.String) (part text a (a + b)) (part source a b)

abbrev pub shade_of : List ℕ → List ℕ → ℕ → ℕ → List ℕ → Shade
shade_of source text k n ws = record { kind = k; next = n; fields = hidden (places k) ws; bytes = bytes_at source text k (chosen (places k) ws) }

unfoldable pub shade : List ℕ → List ℕ → Node → Shade
shade source text n = shade_of source text n.kind n.next (n.p ∷ n.q ∷ n.r ∷ n.s ∷ [])

-- nodes of a source and its text, and those of another
abbrev pub Alike : List ℕ → List ℕ → List Node → List ℕ → List ℕ → List Node → Type 0
Alike source text ns source' text' ns' = map (shade source text) ns ≡ map (shade source' text') ns'
