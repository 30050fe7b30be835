-- The nodes of the values at hand are there: whatever is taken or done, nodes are only added, and values refer to nodes that are written.
-- This is what code cites after a call, to read or link the node that it was handed.
-- Assumes nothing.
use mathlib.Core.List.{List, [], ◌∷◌}
use Prim.Native.Nat.{ℕ, zero, suc, ◌≤◌, ◌<◌}
use native.Mathlib.Omega.{arith}
use lib.ListN.{length, get_or, set, drop, length-set, length-append}
use Rattle.grammar.proofs.Along.{Keeps, singly}
use Rattle.tokens.specs.Token.{Token}
use Rattle.ast.specs.Node.{Node}
use Rattle.pyhyeon.specs.Machine.{Value, token, node, signs, growing, list, chain, Kept, number, count, last, one, both, whole, top, put, write}
use Rattle.pyhyeon.specs.Action.{Action, mark, literal, named, alone, signs_none, signs_more, unary, binary, compare, compare_more, compared, list_none, list_one, list_join, list_done, enclose, empty, group, tuple, pair, attribute, apply, index, lambda, expr, assign, return, branch, elif, else, while, for, define, class, program, wrap, bare, perform, machine}

-- the nodes of a value are below m
unfoldable pub Fit : ℕ → Value → Type 0
Fit m (token t) = Unit {0}
Fit m (node n) = n < m
Fit m (signs f c) = Unit {0}
Fit m (growing f l) = (f < m) × (l < m)
Fit m (list f) = Unit {0}
Fit m (chain w l) = w < m

unfoldable pub Held : ℕ → List Value → Type 0
unfolding Fit
Held m [] = Unit {0}
Held m (v ∷ vs) = Fit m v × Held m vs

pub record Along (k k' : Kept) : Type 0 where
  pub grows : length k.nodes ≤ length k'.nodes
  pub held : Held (length k.nodes) k.values → Held (length k'.nodes) k'.values

fit_more : (m m' : ℕ) (v : Value) → m ≤ m' → Fit m v → Fit m' v
unfolding Fit
fit_more m m' (token t) le h = tt
fit_more m m' (node n) le h = omega arith
fit_more m m' (signs f c) le h = tt
fit_more m m' (growing f l) le h = (omega arith, omega arith)
fit_more m m' (list f) le h = tt
fit_more m m' (chain w l) le h = omega arith

held_drop : (i m m' : ℕ) (vs : List Value) → m ≤ m' → Held m vs → Held m' (drop i vs)
unfolding Held
held_drop zero m m' [] le h = tt
held_drop zero m m' (v ∷ vs) le h = (fit_more m m' v le h.0, held_drop zero m m' vs le h.1)
held_drop (suc i) m m' [] le h = tt
held_drop (suc i) m m' (v ∷ vs) le h = held_drop i m m' vs le h.1

fit_at : (i m : ℕ) (vs : List Value) → Held m vs → Fit m (get_or vs i (token 0))
unfolding Held Fit
fit_at i m [] h = tt
fit_at zero m (v ∷ vs) h = h.0
fit_at (suc i) m (v ∷ vs) h = fit_at i m vs h.1

fit_one : (m : ℕ) (v : Value) → Fit m v → Fit m (one v)
unfolding Fit one
fit_one m (token t) h = tt
fit_one m (node n) h = (h, h)
fit_one m (signs f c) h = tt
fit_one m (growing f l) h = h
fit_one m (list f) h = tt
fit_one m (chain w l) h = h

fit_last : (m : ℕ) (v : Value) → 0 < m → Fit m v → last v < m
unfolding Fit last
fit_last m (token t) pos h = omega arith
fit_last m (node n) pos h = omega arith
fit_last m (signs f c) pos h = omega arith
fit_last m (growing f l) pos h = h.1
fit_last m (list f) pos h = omega arith
fit_last m (chain w l) pos h = omega arith

fit_both : (m : ℕ) (v w : Value) → Fit m v → Fit m w → Fit m (both v w)
unfolding Fit both
fit_both m (token t) w h i = tt
fit_both m (node n) w h i = h
fit_both m (signs f c) w h i = tt
fit_both m (growing f l) w h i = (h.0, fit_last m w (omega (arith, h.0)) i)
fit_both m (list f) w h i = tt
fit_both m (chain x l) w h i = h

fit_whole : (m : ℕ) (v : Value) → Fit m v → Fit m (whole v)
unfolding Fit whole
fit_whole m (token t) h = tt
fit_whole m (node n) h = h
fit_whole m (signs f c) h = tt
fit_whole m (growing f l) h = h
fit_whole m (list f) h = tt
fit_whole m (chain w l) h = h

-- the shapes of an action
put_along : (i : ℕ) (v : Value) (k : Kept) → (Held (length k.nodes) k.values → Fit (length k.nodes) v) → Along k (put i v k)
unfolding Held
put_along i v k f = record { grows = omega arith; held = λ h. (f h, held_drop i _ _ k.values (omega arith) h) }

write_along : (i : ℕ) (x : Node) (k : Kept) → Along k (write i x k)
unfolding Held Fit
write_along i x k =
    let e = length-append k.nodes (x ∷ []) in
    record { grows = omega arith; held = λ h. (omega arith, held_drop i (length k.nodes) _ k.values (omega arith) h) }

along_on : {a b c : Kept} → Along a b → Along b c → Along a c
along_on f g = record { grows = omega (arith, f.grows, g.grows); held = λ h. g.held (f.held h) }

along_same : (k : Kept) → Along k k
along_same k = record { grows = omega arith; held = λ h. h }

change_along : (m : ℕ) (x : Node) (k : Kept) → Along k (record { at = k.at; nodes = set k.nodes m x; values = k.values })
unfolding Held
change_along m x k =
    let e = length-set k.nodes m x in
    record { grows = omega arith; held = λ h. held_drop 0 (length k.nodes) _ k.values (omega arith) h }

module _ (source : List ℕ) (toks : List Token) where
  wrap_along : (c f : ℕ) (k : Kept) → Along k (wrap source toks c f k)
  unfolding wrap
  wrap_along zero f k = along_same k
  wrap_along (suc c) f k = along_on (write_along 1 _ k) (wrap_along c _ _)

  act_along : (a : Action) (k : Kept) → Along k (perform source toks a k)
  unfolding perform Fit
  act_along mark k = put_along 0 _ k (λ _. tt)
  act_along literal k = write_along 0 _ k
  act_along (named kind) k = write_along 0 _ k
  act_along (alone kind) k = write_along 0 _ k
  act_along signs_none k = put_along 0 _ k (λ _. tt)
  act_along signs_more k = put_along 1 _ k (λ _. tt)
  act_along unary k = along_on (put_along 2 (top 0 k) k (λ h. fit_at 0 _ k.values h)) (wrap_along (count (top 1 k)) (number (top 1 k)) (bare source toks k))
  act_along binary k = write_along 3 _ k
  act_along compare k =
      along_on (write_along 3 _ k) (put_along 1 _ _ (λ _. simp length-append (omega arith)))
  act_along compare_more k =
      along_on (along_on (write_along 3 _ k) (write_along 1 _ _))
      (put_along 1 _ _ (λ _. simp length-append (omega arith)))
  act_along compared k = put_along 1 _ k (λ h. fit_whole _ (top 0 k) (fit_at 0 _ k.values h))
  act_along list_none k = put_along 0 _ k (λ _. tt)
  act_along list_one k = put_along 1 _ k (λ h. fit_one _ (top 0 k) (fit_at 0 _ k.values h))
  act_along list_join k =
      along_on (put_along 2 (both (top 1 k) (top 0 k)) k (λ h. fit_both _ (top 1 k) (top 0 k) (fit_at 1 _ k.values h) (fit_at 0 _ k.values h)))
      (change_along _ _ (put 2 (both (top 1 k) (top 0 k)) k))
  act_along list_done k = put_along 1 _ k (λ _. tt)
  act_along (enclose kind) k = write_along 2 _ k
  act_along (empty kind) k = write_along 1 _ k
  act_along group k = along_on (put_along 2 (top 0 k) k (λ h. fit_at 0 _ k.values h)) (change_along _ _ (put 2 (top 0 k) k))
  act_along tuple k = write_along 1 _ k
  act_along pair k = write_along 2 _ k
  act_along attribute k = write_along 1 _ k
  act_along apply k = write_along 2 _ k
  act_along index k = write_along 2 _ k
  act_along lambda k = write_along 3 _ k
  act_along expr k = write_along 1 _ k
  act_along assign k = along_on (change_along _ _ k) (write_along 2 _ _)
  act_along return k = write_along 2 _ k
  act_along branch k = write_along 5 _ k
  act_along elif k = write_along 3 _ k
  act_along else k = write_along 2 _ k
  act_along while k = write_along 3 _ k
  act_along for k = write_along 4 _ k
  act_along (define kind) k = write_along 4 _ k
  act_along class k = write_along 3 _ k
  act_along program k = write_along 1 _ k

  pub keeps : Keeps (machine source toks) singly (λ s s'. Along s.kept s'.kept)
  keeps = record {
    same = λ s. along_same s.kept;
    on = along_on;
    shifted = λ t _ l k. record { grows = omega arith; held = λ h. h };
    acted = λ a _ s. act_along a s.kept;
    both = λ a none. absurd none;
  }
