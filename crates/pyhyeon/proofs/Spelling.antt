-- The Floats that a descent writes have the spans of the Float tokens that it took, one by one, whatever widens a node later: only the action `literal` writes
-- one, right behind its token, and what changes a node that is written leaves its kind and fields.
-- Assumes nothing.
use mathlib.Core.Path.{◌≡◌, refl, sym, ap, ◌∙◌, subst}
use mathlib.Core.Bool.{Bool, true, false, not}
use mathlib.Core.List.{List, [], ◌∷◌, ◌++◌, flat_map}
use Prim.Native.Nat.{ℕ, zero, suc, ◌+◌, ◌-◌, ◌<◌}
use native.Mathlib.Omega.{arith}
use lib.Dec.{T, eqb}
use lib.ListN.{length, get_or, drop, take}
use lib.Seq.{drop-drop}
use Rattle.token.specs.Code as code
use Rattle.tokens.specs.Token.{Token}
use Rattle.lexer.specs.Scan.{scanned, token_list}
use Rattle.lexer.proofs.Properties.{Each, FloatCoded}
use Rattle.lexer.proofs.Laws.{tokens_floats, tokens_end}
use Rattle.grammar.specs.Sets.{mem}
use Rattle.grammar.specs.Trial.{St}
use Rattle.grammar.specs.Descent.{Answer, done, no, deep, stuck, descend}
use Rattle.grammar.proofs.Sets.{sees_one}
use Rattle.grammar.proofs.Ends.{Ends, at_done, ends_map}
use Rattle.grammar.proofs.Along.{Steps, made_of, Keeps, descend_by}
use Rattle.grammar.proofs.Top.{accepted_at}
use Rattle.ast.specs.Kind as kind
use Rattle.ast.specs.Node.{Node, blank, linked, spanned}
use Rattle.pyhyeon.specs.Symbol.{symbols}
use Rattle.pyhyeon.specs.Machine.{Value, Kept, number, count, top, put, write, nth, change}
use Rattle.pyhyeon.specs.Action.{Action, mark, literal, named, alone, signs_none, signs_more, unary, binary, compare, compare_more, compared, list_none, list_one, list_join, list_done, enclose, empty, group, tuple, pair, attribute, apply, index, lambda, expr, assign, return, branch, elif, else, while, for, define, class, program, wrap, bare, perform, machine}
use Rattle.pyhyeon.specs.Rules.{Rule, Program, Line, Simple, Block, Class, E, O, A, C, S, P, U, F, plain}
use Rattle.pyhyeon.specs.Tables.{joined, follow, depth, pyhyeon}
use Rattle.pyhyeon.specs.Reading.{Work, Accepted, start, descended, descent}
use Rattle.pyhyeon.specs.Spelling.{FloatSpelled, token_spelling, node_spelling, Spellings}
use Rattle.pyhyeon.proofs.Meter.{act_at}
use Rattle.pyhyeon.proofs.Language.{language}
use Rattle.pyhyeon.proofs.Symbols.{next-token}
use Rattle.pyhyeon.proofs.Floats.{flat_one, no_node, added, replaced, floats_write, floats_set, float_next, floats_more, floats_taken, all_taken, literal_spelled, literal_same}

-- what an action writes: no node, nodes of this kind, or that of the literal that was taken
data Writes : Action → Type 0 where
  nothing : {a : Action} → Writes a
  a_node : {a : Action} → ℕ → Writes a
  a_literal : Writes literal

unfoldable writing : (a : Action) → Writes a
writing mark = nothing
writing literal = a_literal
writing (named k) = a_node k
writing (alone k) = a_node k
writing signs_none = nothing
writing signs_more = nothing
writing unary = a_node kind.Unary
writing binary = a_node kind.Binary
writing compare = a_node kind.Binary
writing compare_more = a_node kind.Binary
writing compared = nothing
writing list_none = nothing
writing list_one = nothing
writing list_join = nothing
writing list_done = nothing
writing (enclose k) = a_node k
writing (empty k) = a_node k
writing group = nothing
writing tuple = a_node kind.Tuple
writing pair = a_node kind.Pair
writing attribute = a_node kind.Attribute
writing apply = a_node kind.Call
writing index = a_node kind.Index
writing lambda = a_node kind.Lambda
writing expr = a_node kind.Expr
writing assign = a_node kind.Assign
writing return = a_node kind.Return
writing branch = a_node kind.If
writing elif = a_node kind.Elif
writing else = a_node kind.Else
writing while = a_node kind.While
writing for = a_node kind.For
writing (define k) = a_node k
writing class = a_node kind.Class
writing program = a_node kind.Program

-- it writes no Float; it writes the literal
unfoldable no_float : {a : Action} → Writes a → Bool
no_float nothing = true
no_float (a_node k) = not (eqb k kind.Float)
no_float a_literal = false

unfoldable the_literal : {a : Action} → Writes a → Bool
the_literal nothing = false
the_literal (a_node k) = false
the_literal a_literal = true

-- the steps of the grammar: a token that is no Float, an action that writes none, and a token with its literal
steps : Steps Action
unfolding writing no_float the_literal
steps = record { due = code.Float ∷ []; free = λ a. no_float (writing a); paired = λ a. the_literal (writing a) }

made_of_steps : (r : Rule) → T (made_of steps (joined r))
unfolding made_of steps writing no_float the_literal plain joined
made_of_steps Program = tt
made_of_steps Line = tt
made_of_steps Simple = tt
made_of_steps Block = tt
made_of_steps Class = tt
made_of_steps E = tt
made_of_steps O = tt
made_of_steps A = tt
made_of_steps C = tt
made_of_steps S = tt
made_of_steps P = tt
made_of_steps U = tt
made_of_steps F = tt

module _ (source : List ℕ) (toks : List Token) where
  -- the nodes of k' have the Floats of those of k
  record Along (k k' : Kept) : Type 0 where
    each : ((i : ℕ) → FloatSpelled source (get_or k.nodes i blank)) → (i : ℕ) → FloatSpelled source (get_or k'.nodes i blank)
    floats_same : flat_map node_spelling k'.nodes ≡ flat_map node_spelling k.nodes

  then : {a b c : Kept} → Along a b → Along b c → Along a c
  then f g = record { each = λ h. g.each (f.each h); floats_same = g.floats_same ∙ f.floats_same }

  same : (k : Kept) → Along k k
  same k = record { each = λ h. h; floats_same = refl }

  -- the shapes of an action: no node, a node that is no Float, and another next or span of a node
  put_along : (i : ℕ) (v : Value) (k : Kept) → Along k (put i v k)
  put_along i v k = record { each = λ h. h; floats_same = refl }

  write_along : (i : ℕ) (x : Node) (k : Kept) → T (not (eqb x.kind kind.Float)) → Along k (write i x k)
  write_along i x k t = record { each = λ h. added source k.nodes x h (λ e. absurd (rw e at t)); floats_same = floats_write k.nodes x t }

  change_along : (m : ℕ) (f : Node → Node) (k : Kept) → (FloatSpelled source (nth m k) → FloatSpelled source (f (nth m k))) → node_spelling (f (nth m k)) ≡ node_spelling (nth m k) → Along k (change m f k)
  change_along m f k g e = record { each = λ h. replaced source k.nodes m _ h (g (h m)); floats_same = floats_set k.nodes m _ e }

  wrap_along : (c f : ℕ) (k : Kept) → Along k (wrap source toks c f k)
  unfolding wrap
  wrap_along zero f k = same k
  wrap_along (suc c) f k = then (write_along 1 _ k tt) (wrap_along c f _)

  act_along : (a : Action) → T (steps.free a) → (k : Kept) → Along k (perform source toks a k)
  unfolding perform steps writing no_float
  act_along mark t k = put_along 0 _ k
  act_along literal t k = absurd t
  act_along (named kind) t k = write_along 0 _ k t
  act_along (alone kind) t k = write_along 0 _ k t
  act_along signs_none t k = put_along 0 _ k
  act_along signs_more t k = put_along 1 _ k
  act_along unary t k = then (put_along 2 (top 0 k) k) (wrap_along (count (top 1 k)) (number (top 1 k)) (bare source toks k))
  act_along binary t k = write_along 3 _ k t
  act_along compare t k = then (write_along 3 _ k t) (put_along 1 _ _)
  act_along compare_more t k = then (then (write_along 3 _ k t) (write_along 1 _ _ t)) (put_along 1 _ _)
  act_along compared t k = put_along 1 _ k
  act_along list_none t k = put_along 0 _ k
  act_along list_one t k = put_along 1 _ k
  act_along list_join t k = then (change_along _ (linked _) k (λ h. h) refl) (put_along 2 _ _)
  act_along list_done t k = put_along 1 _ k
  act_along (enclose kind) t k = write_along 2 _ k t
  act_along (empty kind) t k = write_along 1 _ k t
  act_along group t k = then (change_along _ (spanned _ _) k (λ h. h) refl) (put_along 2 _ _)
  act_along tuple t k = write_along 1 _ k t
  act_along pair t k = write_along 2 _ k t
  act_along attribute t k = write_along 1 _ k t
  act_along apply t k = write_along 2 _ k t
  act_along index t k = write_along 2 _ k t
  act_along lambda t k = write_along 3 _ k t
  act_along expr t k = write_along 1 _ k t
  act_along assign t k = then (change_along _ (spanned _ _) k (λ h. h) refl) (write_along 2 _ _ t)
  act_along return t k = write_along 2 _ k t
  act_along branch t k = write_along 5 _ k t
  act_along elif t k = write_along 3 _ k t
  act_along else t k = write_along 2 _ k t
  act_along while t k = write_along 3 _ k t
  act_along for t k = write_along 4 _ k t
  act_along (define kind) t k = write_along 4 _ k t
  act_along class t k = write_along 3 _ k t
  act_along program t k = write_along 1 _ k t

  -- what holds from the start on: which tokens are left, and the Floats of the nodes are those of the tokens that were taken
  record SoFar (s : St (machine source toks)) : Type 0 where
    left : s.rest ≡ drop s.kept.at (symbols source toks)
    each : (i : ℕ) → FloatSpelled source (get_or s.kept.nodes i blank)
    in_order : flat_map node_spelling s.kept.nodes ≡ flat_map token_spelling (take s.kept.at toks)

  -- a token is taken
  abbrev past : ℕ → Kept → Kept
  past t k = (machine source toks).shift t k

  left_on : {t : ℕ} (n : ℕ) {l : List ℕ} → t ∷ l ≡ drop n (symbols source toks) → l ≡ drop (n + 1) (symbols source toks)
  left_on n e = ap (drop 1) e ∙ drop-drop 1 n (symbols source toks)

  -- a Float is due
  met : {t : ℕ} → t ≡ code.Float → T (mem t steps.due)
  unfolding steps
  met e = rw e tt

  module _ (floats : Each (FloatCoded source) toks) where
    shifted : (t : ℕ) → (T (mem t steps.due) → ⊥) → (l : List ℕ) (k : Kept) → SoFar (record { rest = t ∷ l; kept = k }) → SoFar (record { rest = l; kept = past t k })
    unfolding steps
    shifted t u l k h =
        let n = next-token source toks k.at h.left in
        record { left = left_on k.at h.left; each = h.each; in_order = h.in_order ∙ sym (floats_taken source toks k.at n.there (λ e. u (met (float_next n e)))) }

    acted : (a : Action) → T (steps.free a) → (s : St (machine source toks)) → SoFar s → SoFar (record { rest = s.rest; kept = perform source toks a s.kept })
    acted a t s h =
        let f = act_along a t s.kept in
        let e = act_at source toks a s.kept in
        record { left = rw e h.left; each = f.each h.each; in_order = rw e (f.floats_same ∙ h.in_order) }

    -- a token and its literal
    literal_taken : (t : ℕ) (l : List ℕ) (k : Kept) → SoFar (record { rest = t ∷ l; kept = k }) → SoFar (record { rest = l; kept = perform source toks literal (past t k) })
    unfolding perform
    literal_taken t l k h =
        let n = next-token source toks k.at h.left in
        let e : k.at + 1 - 1 ≡ k.at = omega arith in
        let there : k.at + 1 - 1 < length toks = omega (arith, n.there) in
        record {
          left = left_on k.at h.left;
          each = added source k.nodes _ h.each (literal_spelled source toks floats (k.at + 1 - 1) there);
          in_order =
              flat_one node_spelling k.nodes _
              ∙ ap (λ r. flat_map node_spelling k.nodes ++ r) (literal_same source toks floats (k.at + 1 - 1) there)
              ∙ rw (h.in_order, e) (sym (floats_more source toks k.at n.there));
        }

    taken_both : {a : Action} (w : Writes a) → T (the_literal w) → (t : ℕ) (l : List ℕ) (k : Kept) → SoFar (record { rest = t ∷ l; kept = k }) → SoFar (record { rest = l; kept = perform source toks a (past t k) })
    unfolding the_literal
    taken_both nothing h = absurd h
    taken_both (a_node x) h = absurd h
    taken_both a_literal h = literal_taken

    keeps : Keeps (machine source toks) steps (λ s s'. SoFar s → SoFar s')
    unfolding steps
    keeps = record { same = λ s h. h; on = λ f g h. g (f h); shifted = shifted; acted = acted; both = λ a. taken_both (writing a) }

    at_first : SoFar (start source toks)
    unfolding start flat_map
    at_first = record { left = refl; each = no_node source; in_order = refl }

    at_end : Ends (λ _ s. SoFar s) (λ _ s. SoFar s) (descend pyhyeon depth Program 0 (start source toks))
    at_end = ends_map (λ n s h. h at_first) (λ n s h. h at_first) (descend_by keeps pyhyeon made_of_steps depth Program 0 (start source toks))

  -- where the script is accepted, Eof stands next, and so all tokens are taken
  accepted : (bs : List ℕ) → token_list source ≡ scanned toks bs → (n : ℕ) (s : St (machine source toks)) → descend pyhyeon depth Program 0 (start source toks) ≡ done n s → Spellings source toks s.kept.nodes
  unfolding follow
  accepted bs is n s e =
      let h = at_done (at_end (tokens_floats source toks bs is)) e in
      let z = sees_one code.Eof s.rest (accepted_at language depth 0 n (start source toks) s e) in
      let next = next-token source toks s.kept.at (sym z.1 ∙ h.left) in
      record { each = h.each; in_order = h.in_order ∙ all_taken source toks (tokens_end source toks bs is) next }

-- the Floats of an accepted script
pub spellings : (source : List ℕ) (toks : List Token) (bs : List ℕ) → token_list source ≡ scanned toks bs → (w : Work) → descent source toks ≡ Accepted w → Spellings source toks w.nodes
unfolding descent
spellings source toks bs is w e = go (descend pyhyeon depth Program 0 (start source toks)) refl e
  where
    go : (x : Answer (machine source toks)) → descend pyhyeon depth Program 0 (start source toks) ≡ x → descended source toks x ≡ Accepted w → Spellings source toks w.nodes
    go (done n s) d f = let g : s.kept.nodes ≡ w.nodes = cc in subst (Spellings source toks) g (accepted source toks bs is n s d)
    go (no asked n s) d f = let z : ◌≡◌ {A = ℕ} 0 1 = cc in absurd (omega arith)
    go (deep n s) d f = let z : ◌≡◌ {A = ℕ} 0 1 = cc in absurd (omega arith)
    go stuck d f = let z : ◌≡◌ {A = ℕ} 0 1 = cc in absurd (omega arith)
