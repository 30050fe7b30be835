-- The trial and the descent agree on every rule of a grammar whose tables pass the test.
-- Assumes nothing.
use mathlib.Core.Bool.{Bool, true, false, not}
use mathlib.Core.List.{List, [], ◌∷◌, ◌++◌}
use Prim.Native.Nat.{ℕ, zero, suc, ◌+◌}
use lib.Dec.{T, leb, ltb}
use Rattle.grammar.specs.Sets.{within}
use Rattle.grammar.specs.Grammar.{Part, skip, act, tok, see, call, ◌⨾◌, ◌∕◌, many, tail}
use Rattle.grammar.specs.Trial.{Machine, St, Parser, take_p, see_p, act_p, skip_p, eval, rule}
use Rattle.grammar.specs.Descent.{Plan, Walk, null, begins, walk, enter, rule_d}
use Rattle.grammar.specs.Check.{next, fits, takes, low, sound}
use Rattle.grammar.proofs.Sets.{and_l, and_r, sees_within}
use Rattle.grammar.proofs.Begin.{On, on_map, on_out, Begun, by, Begins, begun_by, begins_part}
use Rattle.grammar.proofs.Agree.{Agree, too_deep, ran_out, Agrees, agrees_same, agrees_call, agrees_seq, agrees_alt, agrees_many, agrees_tail}

-- the parts of the test of one rule
pub record Sound {Act R : Type 0} (G : Plan Act R) (r : R) : Type 0 where
  pub full : T (not (null (G.body r)))
  pub starts : T (within (begins G.first (G.body r)) (G.first r))
  pub decided : T (fits G (G.follow r) (G.body r))
  pub enough : T (leb (G.least r) (takes G.least (G.body r)))
  pub ranked : T (ltb (G.rank r) 100)
  pub lower : T (low G 100 (G.rank r) (G.body r))

pub tested : {Act R : Type 0} (G : Plan Act R) (r : R) → T (sound G r) → Sound G r
unfolding sound
tested G r t = record {
  full = search (and_l, and_r) depth 7;
  starts = search (and_l, and_r) depth 7;
  decided = search (and_l, and_r);
  enough = search (and_l, and_r);
  ranked = search (and_l, and_r);
  lower = search and_r;
}

module _ {Act : Type 0} {M : Machine Act} {R : Type 0} (G : Plan Act R) (good : (r : R) → Sound G r) where
  -- a rule is begun by a token of its table
  rule-at : (n : ℕ) (r : R) (s : St M) → On (Begun (G.first r) false s) (rule G.body n r s)
  unfolding rule
  rule-at zero r s = on_out
  rule-at (suc n) r s =
      on_map (λ s' h. by (sees_within (G.first r) (good r).starts (begun_by (null (G.body r)) (good r).full h)))
      ((begins_part G.first (λ r'. record { at = rule-at n r' }) (G.body r)).at s)

  pub begins_rule : (n : ℕ) (r : R) → Begins (G.first r) false (rule {M = M} G.body n r)
  begins_rule n r = record { at = rule-at n r }

  -- a part, where the rules agree
  agrees_part : {env : R → Parser M} {walks : R → Walk M} → ((r : R) → Begins (G.first r) false (env r)) → ((r : R) → Agrees (G.follow r) (env r) (walks r)) →
      (K : List ℕ) (p : Part Act R) → T (fits G K p) → Agrees K (eval env p) (walk G.first walks p)
  unfolding eval walk fits
  agrees_part be he K skip t = agrees_same [] skip_p
  agrees_part be he K (act a) t = agrees_same [] (act_p a)
  agrees_part be he K (tok set) t = agrees_same set (take_p set)
  agrees_part be he K (see set) t = agrees_same set (see_p set)
  agrees_part be he K (call r) t = agrees_call (be r) t (he r)
  agrees_part be he K (p ⨾ q) t = agrees_seq (begins_part G.first be q) (agrees_part be he (next G.first q K) p (search and_l)) (agrees_part be he K q (search (and_l, and_r)))
  agrees_part be he K (p ∕ q) t = agrees_alt _ (begins_part G.first be p) (begins_part G.first be q) (search (and_l, and_r)) (search (and_l, and_r)) (agrees_part be he K p (search (and_l, and_r))) (agrees_part be he K q (search (and_l, and_r)))
  agrees_part be he K (many p) t = agrees_many (begins_part G.first be p) (search (and_l, and_r)) (search (and_l, and_r)) (agrees_part be he (begins G.first p ++ K) p (search (and_l, and_r)))
  agrees_part {env} be he K (tail c p) t = agrees_tail c (eval env p) (begins_part G.first be p) (search (and_l, and_r)) (search (and_l, and_r)) (agrees_part be he (c ∷ K) p (search (and_l, and_r)))

  -- what a rule does to the count and to the room
  agrees_enter : {K : List ℕ} {p : Parser M} {go : ℕ → Walk M} (b : Bool) (room : ℕ) → ((m : ℕ) → Agrees K p (go m)) → (n : ℕ) (s : St M) → Agree K (p s) (enter b room go n s)
  unfolding enter
  agrees_enter false room h n s = (h room).at (n + 1) s
  agrees_enter true zero h n s = too_deep
  agrees_enter true (suc room) h n s = (h room).at (n + 1) s

  pub agrees_rule : (k room : ℕ) (r : R) (n : ℕ) (s : St M) → Agree (G.follow r) (rule G.body k r s) (rule_d G k room r n s)
  unfolding rule rule_d
  agrees_rule zero room r n s = ran_out
  agrees_rule (suc k) room r n s =
      agrees_enter (G.opens r) room (λ m. agrees_part (begins_rule k) (λ r'. record { at = agrees_rule k m r' }) (G.follow r) (G.body r) (good r).decided) n s
