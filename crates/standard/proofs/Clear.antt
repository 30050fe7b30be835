-- A tree that leaves no block empty: where no node is hollow, none of the tree's is.
-- Assumes nothing.
use mathlib.Core.Path.{◌≡◌, refl}
use mathlib.Core.Bool.{Bool, true, false, ◌||◌}
use mathlib.Core.List.{List, [], ◌∷◌, ◌++◌}
use Prim.Native.Nat.{ℕ, ◌+◌}
use native.Mathlib.Omega.{arith}
use Rattle.ast.specs.Node.{Field, Node, none}
use Rattle.trees.specs.Tree.{Part, single, row, Tree, node, chained, done, unused, word, child, kids, other, nil, full, one, more, first, link}
use Rattle.trees.specs.Flat.{size, top, fields, filled, onto, flat}
use Rattle.standard.specs.Hollow.{hollow, any_hollow_lem}

-- a node of the kind k has no empty Block, by the numbers that its fields hold from some b on; so everywhere in a tree
abbrev pub Open : {fs : List Field} → ℕ → Tree (row fs) → Type 0
Open k r = (b : ℕ) × (hollow (filled k 0 0 0 (fields b r)) ≡ false)

unfoldable pub Clear : {i : Part} → Tree i → Type 0
Clear (node k s e h r) = Open k r × Clear r
Clear (chained c) = Clear c
Clear done = Unit {0}
Clear (unused r) = Clear r
Clear (word w r) = Clear r
Clear (child x r) = Clear x × Clear r
Clear (kids l r) = Clear l × Clear r
Clear (other l r) = Clear l × Clear r
Clear nil = Unit {0}
Clear (full l) = Clear l
Clear (one x) = Clear x
Clear (more l x) = Clear l × Clear x
Clear (first s e op x y) = Clear x × Clear y
Clear (link s e s' e' op c y) = Clear c × Clear y

or_false : (a b : Bool) → a || b ≡ false → (a ≡ false) × (b ≡ false)
or_false true b e = let z : ◌≡◌ {A = ℕ} 0 1 = cc in absurd (omega arith)
or_false false b e = (refl, e)

append_false : (l m : List Node) → any_hollow_lem (l ++ m) ≡ false → (any_hollow_lem l ≡ false) × (any_hollow_lem m ≡ false)
unfolding any_hollow_lem
append_false [] m e = (refl, e)
append_false (n ∷ l) m e =
    let (p, q) = or_false (hollow n) (any_hollow_lem (l ++ m)) e in
    let (u, v) = append_false l m q in
    (rw (p, u) refl, v)

-- no node behind these is hollow
last_false : (l : List Node) (n : Node) → any_hollow_lem (l ++ n ∷ []) ≡ false → (any_hollow_lem l ≡ false) × (hollow n ≡ false)
unfolding any_hollow_lem
last_false l n e =
    let (p, q) = append_false l (n ∷ []) e in
    (p, (or_false (hollow n) false q).0)

clear_from : {i : Part} (ns : List Node) (b n : ℕ) (x : Tree i) → any_hollow_lem (onto ns b n x) ≡ false → (any_hollow_lem ns ≡ false) × Clear x
unfolding onto Clear
clear_from ns b n (node k s e h r) f =
    let (p, q) = last_false (onto ns b none r) _ f in
    let (u, v) = clear_from ns b none r p in
    (u, ((b, q), v))
clear_from ns b n (chained c) f = clear_from ns b n c f
clear_from ns b n done f = (f, tt)
clear_from ns b n (unused r) f = clear_from ns b n r f
clear_from ns b n (word w r) f = clear_from ns b n r f
clear_from ns b n (child x r) f =
    let (p, q) = clear_from (onto ns b none x) (b + size x) n r f in
    let (u, v) = clear_from ns b none x p in
    (u, (v, q))
clear_from ns b n (kids l r) f =
    let (p, q) = clear_from (onto ns b none l) (b + size l) n r f in
    let (u, v) = clear_from ns b none l p in
    (u, (v, q))
clear_from ns b n (other l r) f =
    let (p, q) = clear_from (onto ns b none l) (b + size l) n r f in
    let (u, v) = clear_from ns b none l p in
    (u, (v, q))
clear_from ns b n nil f = (f, tt)
clear_from ns b n (full l) f = clear_from ns b none l f
clear_from ns b n (one x) f = clear_from ns b n x f
clear_from ns b n (more l x) f =
    let (p, q) = clear_from (onto ns b (top (b + size l) x) l) (b + size l) n x f in
    let (u, v) = clear_from ns b (top (b + size l) x) l p in
    (u, (v, q))
clear_from ns b n (first s e op x y) f =
    let (g, _) = last_false (onto (onto ns b none x) (b + size x) none y) _ f in
    let (p, q) = clear_from (onto ns b none x) (b + size x) none y g in
    let (u, v) = clear_from ns b none x p in
    (u, (v, q))
clear_from ns b n (link s e s' e' op c y) f =
    let (g, _) = append_false (onto (onto ns b none c) (b + size c) none y ++ _ ∷ []) _ f in
    let (h, _) = last_false (onto (onto ns b none c) (b + size c) none y) _ g in
    let (p, q) = clear_from (onto ns b none c) (b + size c) none y h in
    let (u, v) = clear_from ns b none c p in
    (u, (v, q))

pub clear : (t : Tree single) → any_hollow_lem (flat t) ≡ false → Clear t
clear t e = (clear_from [] 0 none t e).1
