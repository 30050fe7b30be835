-- The tree slice is printed as the words that the reader filled in, which stand at its front.
-- Assumes nothing.
use mathlib.Core.Path.{◌≡◌, refl, ap, sym, subst, ◌∙◌}
use mathlib.Core.Bool.{Bool, true, false, cond}
use mathlib.Core.List.{List, [], ◌∷◌, ◌++◌, append_assoc}
use Prim.Native.Nat.{ℕ, ◌+◌, ◌-◌, ◌*◌, ◌≤◌, ◌<◌}
use native.Mathlib.Omega.{arith}
use lib.Dec.{ltb}
use lib.ListN.{length, drop, replicate, get_or-append}
use lib.Seq.{take-append-le}
use Rattle.std.specs.Prelude.{Ok, Err, Option, Some, None}
use Rattle.areas.specs.Area.{area, token_area}
use Rattle.utf8.specs.Table.{utf8_error_lem}
use Rattle.tokens.specs.Token.{Token}
use Rattle.lexer.specs.Scan.{Scan, scanned, refused, token_list}
use Rattle.ast.specs.Node.{Node}
use Rattle.ast.specs.Words.{node_at, nodes_of}
use Rattle.ast.proofs.Tabulate.{tabulate_same}
use Rattle.pyhyeon.specs.Reading.{Descended, Accepted, TooDeep, Misfit, descent}
use Rattle.reader.specs.Answer.{Answer, numbers_of, written}
use Rattle.reader.specs.Outcome.{Outcome, Area, kept, holds, records, after, untouched, of_descent, of_scan, of_utf8, tree_area, outcome}
use Rattle.reader.specs.Reads.{Reads}
use Rattle.printing.specs.Wrote.{Shows}
use Rattle.listing.specs.Listing.{printed, filled, printed_outcome}

-- a tree's words are its header's eight and eight for each node
abbrev Sized : Answer → Area → Type 0
Sized (Ok t) kept = ⊥
Sized (Ok t) (holds ws) = length ws ≡ 8 + 8 * t.nodes
Sized (Err s) a = Unit {0}

record IsSized (o : Outcome) : Type 0 where
  sized : Sized o.answer o.tree

records_long : (ns : List Node) → length (records ns) ≡ 8 * length ns
records_long [] = refl
records_long (n ∷ ns) = omega (arith, records_long ns)

by_descent : (n : ℕ) (ts : List Token) (bs : List ℕ) (d : Descended) → IsSized (of_descent n ts bs d)
by_descent n ts bs (Accepted w) = record { sized = omega (arith, records_long w.nodes) }
by_descent n ts bs (TooDeep place w) = record { sized = tt }
by_descent n ts bs (Misfit f place w) = record { sized = tt }

by_scan : (src : List ℕ) (s : Scan) → IsSized (of_scan src s)
by_scan src (refused number place) = record { sized = tt }
by_scan src (scanned ts bs) = by_descent (length src) ts bs (descent src ts)

by_utf8 : (src : List ℕ) (u : Option ℕ) → IsSized (of_utf8 src u)
by_utf8 src (Some place) = record { sized = tt }
by_utf8 src None = by_scan src (token_list src)

asked : (p q r s : Bool) (o : Outcome) → IsSized o → IsSized (cond p (untouched 1 0) (cond q (untouched 2 0) (cond r (untouched 3 0) (cond s (untouched 4 0) o))))
asked true q r s o h = record { sized = tt }
asked false true r s o h = record { sized = tt }
asked false false true s o h = record { sized = tt }
asked false false false true o h = record { sized = tt }
asked false false false false o h = h

outcome_sized : (src : List ℕ) (tokens text tree : ℕ) → IsSized (outcome src tokens text tree)
unfolding outcome
outcome_sized src tokens text tree =
    let n = length src in
    asked (ltb 65536 n) (ltb tokens (token_area n)) (ltb text n) (ltb tree (tree_area n)) (of_utf8 src (utf8_error_lem src)) (by_utf8 src (utf8_error_lem src))

-- the nodes are read off the front
nodes_front : (ws rest : List ℕ) (n : ℕ) → 8 * n + 8 ≤ length ws → nodes_of (ws ++ rest) n ≡ nodes_of ws n
unfolding nodes_of
nodes_front ws rest n h = tabulate_same (node_at (ws ++ rest)) (node_at ws) 0 n (λ j _ l. same j l)
  where
    same : (j : ℕ) → j < 0 + n → node_at (ws ++ rest) j ≡ node_at ws j
    same j l =
        let g = get_or-append ws rest 0 in
        rw (g (8 * j + 8) (omega arith), g (8 * j + 8 + 1) (omega arith), g (8 * j + 8 + 2) (omega arith), g (8 * j + 8 + 3) (omega arith), g (8 * j + 8 + 4) (omega arith), g (8 * j + 8 + 5) (omega arith), g (8 * j + 8 + 6) (omega arith), g (8 * j + 8 + 7) (omega arith))

printed_front : (r : Answer) (a : Area) (size : ℕ) (before : List ℕ) → Sized r a → printed r (after a size before) ≡ printed r (filled a)
unfolding printed area
printed_front (Ok t) kept size before s = absurd s
printed_front (Ok t) (holds ws) size before s =
    let rest = replicate (size - length ws) 0 ++ drop size before in
    rw (append_assoc ws (replicate (size - length ws) 0) (drop size before), take-append-le 8 ws rest (omega arith), nodes_front ws rest t.nodes (omega arith))
printed_front (Err e) a size before s = refl

-- an answer shows no more nodes than were written
shown_few : (r : Answer) → (numbers_of r).nodes ≤ written r
shown_few (Ok t) = omega arith
shown_few (Err s) = omega arith

-- What the reader answered for a source, with slices of these lengths.
module _ (src : List ℕ) (r : Answer) (tokens₀ text₀ tree₀ tokens text tree : List ℕ) (h : Reads src r tokens₀ text₀ tree₀ tokens text tree) where
  pub nodes_few : (numbers_of r).nodes ≤ 2 * length src + 1
  nodes_few = omega (arith, shown_few r, h.few_nodes, h.few_tokens)

  pub printed_as : (a b c : ℕ) → length tokens₀ ≡ a → length text₀ ≡ b → length tree₀ ≡ c → printed_outcome (outcome src a b c) ≡ printed r tree
  printed_as a b c e f g =
      let o = outcome src (length tokens₀) (length text₀) (length tree₀) in
      let p : printed r tree ≡ printed_outcome o =
      ap (λ (x : Answer). printed x tree) h.answer
      ∙ ap (printed o.answer) h.tree_is
      ∙ printed_front o.answer o.tree (tree_area (length src)) tree₀ (outcome_sized src (length tokens₀) (length text₀) (length tree₀)).sized in
      sym (rw (e, f, g) at p)

-- the same bytes under another name
pub same_shows : {a b out out' : List ℕ} {r : ℕ} → a ≡ b → Shows b out out' r → Shows a out out' r
same_shows {out = out} {out' = out'} {r = r} e w = subst (λ (x : List ℕ). Shows x out out' r) (sym e) w
