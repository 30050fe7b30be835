-- A node tells apart from its places whether it is hollow, so that alike nodes are hollow alike.
-- Assumes nothing.
use mathlib.Core.Path.{◌≡◌, refl, ap, ap₂, ◌∙◌, sym}
use mathlib.Core.Bool.{Bool, true, false, cond, ◌||◌}
use mathlib.Core.List.{List, [], ◌∷◌, map}
use Prim.Native.Nat.{ℕ}
use lib.Dec.{T, eqb, eqb→eq}
use lib.ListN.{get_or}
use Rattle.grammar.specs.Sets.{mem}
use Rattle.ast.specs.Kind as kind
use Rattle.ast.specs.Node.{Node, none}
use Rattle.trees.proofs.Apt.{each}
use Rattle.standard.specs.Alike.{Shade, places, hidden, shade, Alike}
use Rattle.standard.specs.Hollow.{block_of, any_hollow_lem}

abbrev block : ℕ → List ℕ → ℕ
block k fs =
    cond (mem k (kind.If ∷ kind.While ∷ kind.Elif ∷ [])) (get_or fs 1 0)
    (cond (mem k (kind.For ∷ kind.Def ∷ kind.Method ∷ [])) (get_or fs 3 0)
    (cond (eqb k kind.Else) (get_or fs 0 0) 0))

-- one case or the other
split : (b : Bool) {x y x' y' : ℕ} → (T b → x ≡ x') → y ≡ y' → cond b x y ≡ cond b x' y'
split true f e = f tt
split false f e = e

block_is : (source text : List ℕ) (n : Node) → block_of n ≡ block n.kind (shade source text n).fields
unfolding shade
block_is source text n =
    let ws = n.p ∷ n.q ∷ n.r ∷ n.s ∷ [] in
    let first = kind.If ∷ kind.While ∷ kind.Elif ∷ [] in
    let last = kind.For ∷ kind.Def ∷ kind.Method ∷ [] in
    split (mem n.kind first) (λ t. each (λ k. n.q ≡ get_or (hidden (places k) ws) 1 0) n.kind first (refl, (refl, (refl, tt))) t)
    (split (mem n.kind last) (λ t. each (λ k. n.s ≡ get_or (hidden (places k) ws) 3 0) n.kind last (refl, (refl, (refl, tt))) t)
    (split (eqb n.kind kind.Else) {y = 0} (λ t. sym (ap (λ (k : ℕ). get_or (hidden (places k) ws) 0 0) (eqb→eq n.kind kind.Else t))) refl))

hollows : List Shade → Bool
hollows [] = false
hollows (x ∷ l) = eqb (block x.kind x.fields) none || hollows l

any_is : (source text : List ℕ) (ns : List Node) → any_hollow_lem ns ≡ hollows (map (shade source text) ns)
unfolding any_hollow_lem hollows shade
any_is source text [] = refl
any_is source text (n ∷ ns) = ap₂ (λ (k : ℕ) (b : Bool). eqb k none || b) (block_is source text n) (any_is source text ns)

pub hollow_alike : (source text : List ℕ) (ns : List Node) (source' text' : List ℕ) (ns' : List Node) → Alike source text ns source' text' ns' → any_hollow_lem ns' ≡ any_hollow_lem ns
hollow_alike source text ns source' text' ns' e = any_is source' text' ns' ∙ ap hollows (sym e) ∙ sym (any_is source text ns)
