-- What follows of every outcome: its counts are the descent's and within the limits, it agrees with the trial, 14, 15 and 16 stand at the earliest misfit, Floats keep
-- their spelling, and none is 12.
-- Assumes nothing.
use mathlib.Core.Path.{◌≡◌, refl, sym, ap, ◌∙◌, subst}
use mathlib.Core.Bool.{Bool, true, false, cond, ◌&&◌}
use mathlib.Core.List.{List, []}
use Prim.Native.Nat.{ℕ, ◌+◌, ◌*◌, ◌≤◌, ◌<◌}
use native.Mathlib.Omega.{arith}
use lib.Dec.{eqb, ltb, leb, leb→le}
use lib.ListN.{length, take, drop}
use borrow.Author.Tests.{le-leb}
use Rattle.std.specs.Prelude.{Option, Some, None}
use Rattle.areas.specs.Area.{token_area}
use Rattle.utf8.specs.Table.{utf8_error_lem}
use Rattle.grammar.specs.Descent as Descent
use Rattle.grammar.specs.Descent.{descend}
use Rattle.grammar.specs.Limits as Limits
use Rattle.token.specs.Code.{Eof}
use Rattle.tokens.specs.Token.{Token}
use Rattle.lexer.specs.Scan.{Scan, scanned, refused, token_list}
use Rattle.lexer.specs.Words.{text_bytes}
use Rattle.lexer.proofs.Laws.{tokens_few, text_few}
use Rattle.lexer.proofs.Refusals.{refusals, refused_case}
use Rattle.pyhyeon.specs.Symbol.{symbols}
use Rattle.pyhyeon.specs.Action.{machine}
use Rattle.pyhyeon.specs.Rules.{Program}
use Rattle.pyhyeon.specs.Tables.{depth, pyhyeon}
use Rattle.pyhyeon.specs.Missing.{Fault, fault_number}
use Rattle.pyhyeon.specs.Reading.{Descended, Accepted, TooDeep, Misfit, Tried, Fits, Fails, Limited, work_of, start, descended, descent, trial}
use Rattle.pyhyeon.proofs.Agreement as agreement
use Rattle.pyhyeon.proofs.Limits.{limits}
use Rattle.pyhyeon.proofs.Spelling as floats
use Rattle.joint.proofs.Promised.{tokens_counted, script_earliest}
use Rattle.source.specs.Reasons.{number_of, reason_of, refusal_at}
use Rattle.source.specs.declared.refusal.Refusal.{Refusal}
use Rattle.reader.specs.Answer.{Answer, before, stopped, numbers_of, written}
use Rattle.reader.specs.Outcome.{Area, holds, Outcome, tree_area, records, after, untouched, of_descent, of_scan, of_utf8, outcome}
use Rattle.reader.specs.Reads.{refused_by, nothing, counts_of, counts_in, descent_counts, trial_of, accepts, nodes_in, EarliestOf, SpellingsOf, Alike, Reads}
use Rattle.reader.proofs.Filled.{nodes_are, area_front, area_records, length_records}

-- the fields of `Reads` that follow, for an answer and the areas of text and tree, where the token list is x
record Follows (src : List ℕ) (x : Scan) (r : Answer) (text tree : Area) : Type 0 where
  counts : counts_of r ≡ cond (refused_by 11 (numbers_of r).number) nothing (descent_counts src x)
  shown : eqb (numbers_of r).number 0 ≡ false → ((numbers_of r).nodes ≡ 0) × ((numbers_of r).text ≡ 0)
  few_openings : (numbers_of r).openings ≤ 10 * (numbers_of r).tokens + 1
  few_nodes : written r ≤ 2 * (numbers_of r).tokens + 1
  few_tokens : (numbers_of r).tokens ≤ length src
  few_bytes : (numbers_of r).text ≤ length src
  exactly : refused_by 13 (numbers_of r).number ≡ false → accepts (trial_of src x) ≡ eqb (numbers_of r).number 0
  count : (numbers_of r).number ≡ 0 → (numbers_of r).nodes ≡ length (nodes_in (trial_of src x))
  words : (numbers_of r).number ≡ 0 → (tree₀ : List ℕ) → take (8 * (numbers_of r).nodes) (drop 8 (after tree (tree_area (length src)) tree₀)) ≡ records (nodes_in (trial_of src x))
  decoded : (numbers_of r).number ≡ 0 → (text₀ : List ℕ) → take (numbers_of r).text (after text (length src) text₀) ≡ text_bytes x
  earliest : leb 14 (numbers_of r).number ≡ true → EarliestOf src x (numbers_of r).number (numbers_of r).place
  spellings : (numbers_of r).number ≡ 0 → SpellingsOf src x (nodes_in (trial_of src x))
  never_12 : (numbers_of r).number ≡ 12 → ⊥

-- a refusal before the descent
early : (src : List ℕ) (x : Scan) (p : Refusal) (text tree : Area) → 1 ≤ number_of p.reason → number_of p.reason ≤ 11 → Follows src x (before p) text tree
early src x p text tree least most =
    let number = number_of p.reason in
    let late_is : leb 14 number ≡ true → ⊥ = λ e. omega (arith, leb→le 14 number (rw e tt)) in
    let a : leb 1 number ≡ true = le-leb 1 number least in
    let b : leb number 11 ≡ true = le-leb number 11 most in
    let c : leb number 13 ≡ true = le-leb number 13 (omega arith) in
    record {
      counts = rw (a, b);
      shown = λ _. (refl, refl);
      few_openings = omega arith;
      few_nodes = omega arith;
      few_tokens = omega arith;
      few_bytes = omega arith;
      exactly = λ e. let f : (true && true) ≡ false = rw (a, c) at e in let z : ◌≡◌ {A = ℕ} 0 1 = cc in absurd (omega arith);
      count = λ e. absurd (omega arith);
      words = λ e. absurd (omega arith);
      decoded = λ e. absurd (omega arith);
      earliest = λ e. absurd (late_is e);
      spellings = λ e. absurd (omega arith);
      never_12 = λ e. omega arith;
    }

module _ (src : List ℕ) (ts : List Token) (bs : List ℕ) (is : token_list src ≡ scanned ts bs) where
  work_tokens : (work_of (descent src ts)).tokens ≤ length src
  unfolding descent
  work_tokens = go (descend pyhyeon depth Program 0 (start src ts))
    where
      T : Limits.before Eof (symbols src ts) ≤ length src
      T = omega (arith, tokens_counted src ts bs is, tokens_few src ts bs is)

      go : (x : Descent.Answer (machine src ts)) → (work_of (descended src ts x)).tokens ≤ length src
      go (Descent.done n s) = T
      go (Descent.no asked n s) = T
      go (Descent.deep n s) = T
      go Descent.stuck = T

  -- what is the same in the three cases of the descent
  record Common (d : Descended) : Type 0 where
    limited : Limited (work_of d)
    same : counts_in (work_of d) ≡ counts_in (work_of (descent src ts))
    short : (work_of d).tokens ≤ length src

  common : (d : Descended) → descent src ts ≡ d → Common d
  common d e = subst Common e (record { limited = limits src ts; same = refl; short = work_tokens })

  late : (d : Descended) → descent src ts ≡ d → Follows src (scanned ts bs) (of_descent (length src) ts bs d).answer (of_descent (length src) ts bs d).text (of_descent (length src) ts bs d).tree
  late (Accepted w) e =
      let t : trial src ts ≡ Fits w.nodes = agreement.accepts src ts w e in
      let l = common (Accepted w) e in
      record {
        counts = l.same;
        shown = λ f. let z : ◌≡◌ {A = ℕ} 0 1 = cc in absurd (omega arith);
        few_openings = l.limited.openings;
        few_nodes = l.limited.nodes;
        few_tokens = l.short;
        few_bytes = text_few src ts bs is;
        exactly = λ _. ap accepts t;
        count = λ _. ap (λ (x : Tried). length (nodes_in x)) (sym t);
        words = λ _ tree₀.
            area_records (tree_area (length src)) (length src) w.tokens (length bs) (length w.nodes) w.openings (records w.nodes) tree₀ (length_records w.nodes)
            ∙ ap (λ (x : Tried). records (nodes_in x)) (sym t);
        decoded = λ _ text₀. area_front (length src) (length bs) bs text₀ refl;
        earliest = λ f. let z : ◌≡◌ {A = ℕ} 0 1 = cc in absurd (omega arith);
        spellings = λ _. rw t (floats.spellings src ts bs is w e);
        never_12 = λ f. omega arith;
      }
  late (TooDeep place w) e =
      let l = common (TooDeep place w) e in
      record {
        counts = l.same;
        shown = λ _. (refl, refl);
        few_openings = l.limited.openings;
        few_nodes = l.limited.nodes;
        few_tokens = l.short;
        few_bytes = omega arith;
        exactly = λ f. let z : ◌≡◌ {A = ℕ} 0 1 = cc in absurd (omega arith);
        count = λ f. absurd (omega arith);
        words = λ f. absurd (omega arith);
        decoded = λ f. absurd (omega arith);
        earliest = λ f. let z : ◌≡◌ {A = ℕ} 0 1 = cc in absurd (omega arith);
        spellings = λ f. absurd (omega arith);
        never_12 = λ f. omega arith;
      }
  late (Misfit f place w) e = by_fault f e
    where
      unfit : (f : Fault) → descent src ts ≡ Misfit f place w → refused_by 11 (fault_number f) ≡ false → eqb (fault_number f) 0 ≡ false → 12 < fault_number f → number_of (reason_of (fault_number f)) ≡ fault_number f →
          Follows src (scanned ts bs) (stopped (fault_number f) place w.tokens (length w.nodes) w.openings) (holds []) (holds [])
      unfit f e a z few n =
          let t : trial src ts ≡ Fails = agreement.refuses src ts f place w e in
          let l = common (Misfit f place w) e in
          record {
            counts = rw (n, a) l.same;
            shown = λ _. (refl, refl);
            few_openings = l.limited.openings;
            few_nodes = l.limited.nodes;
            few_tokens = l.short;
            few_bytes = omega arith;
            exactly = λ _. rw (n, z) (ap accepts t);
            count = λ k. absurd (omega arith);
            words = λ k. absurd (omega arith);
            decoded = λ k. absurd (omega arith);
            earliest = λ _. rw n (script_earliest src ts bs is f place w e);
            spellings = λ k. absurd (omega arith);
            never_12 = λ k. omega arith;
          }

      by_fault : (f : Fault) → descent src ts ≡ Misfit f place w → Follows src (scanned ts bs) (stopped (fault_number f) place w.tokens (length w.nodes) w.openings) (holds []) (holds [])
      by_fault Fault.wrong e = unfit Fault.wrong e refl refl (omega arith) refl
      by_fault Fault.cut e = unfit Fault.cut e refl refl (omega arith) refl
      by_fault Fault.missing e = unfit Fault.missing e refl refl (omega arith) refl

abbrev Of : List ℕ → Outcome → Type 0
Of src o = Follows src (token_list src) o.answer o.text o.tree

of-scan : (src : List ℕ) → Of src (of_scan src (token_list src))
of-scan src = go (token_list src) refl
  where
    go : (x : Scan) → token_list src ≡ x → Follows src x (of_scan src x).answer (of_scan src x).text (of_scan src x).tree
    go (refused number place) e = let f = refusals src number place e in
        let n = refused_case src number place e in
        early src (refused number place) (refusal_at number place) _ _ (omega (arith, n, f.least)) (omega (arith, n, f.greatest))
    go (scanned ts bs) e = late src ts bs e (descent src ts) refl

of_all : (src : List ℕ) (tokens text tree : ℕ) → Of src (outcome src tokens text tree)
unfolding outcome
of_all src tokens text tree = go (ltb 65536 (length src)) (ltb tokens (token_area (length src))) (ltb text (length src)) (ltb tree (tree_area (length src))) (utf8_error_lem src)
  where
    no : (number place : ℕ) → 1 ≤ number_of (reason_of number) → number_of (reason_of number) ≤ 11 → Of src (untouched number place)
    no number place h k = early src (token_list src) (refusal_at number place) _ _ h k

    go : (a b c d : Bool) (u : Option ℕ) → Of src (cond a (untouched 1 0) (cond b (untouched 2 0) (cond c (untouched 3 0) (cond d (untouched 4 0) (of_utf8 src u)))))
    go true b c d u = no 1 0 (omega arith) (omega arith)
    go false true c d u = no 2 0 (omega arith) (omega arith)
    go false false true d u = no 3 0 (omega arith) (omega arith)
    go false false false true u = no 4 0 (omega arith) (omega arith)
    go false false false false (Some place) = no 5 place (omega arith) (omega arith)
    go false false false false None = of-scan src

-- "so 12 never occurs from here on": no source, in slices of any lengths, is answered by it
pub no_answer_12 : (src : List ℕ) (tokens text tree : ℕ) → (numbers_of (outcome src tokens text tree).answer).number ≡ 12 → ⊥
no_answer_12 src tokens text tree = (of_all src tokens text tree).never_12

-- all that is promised, from what the answer is and what the slices hold
pub promised : (src tokens₀ text₀ tree₀ : List ℕ) {o : Outcome} {r : Answer} {tokens text tree : List ℕ} → outcome src (length tokens₀) (length text₀) (length tree₀) ≡ o → r ≡ o.answer
    → tokens ≡ after o.tokens (token_area (length src)) tokens₀ → text ≡ after o.text (length src) text₀ → tree ≡ after o.tree (tree_area (length src)) tree₀
    → Reads src r tokens₀ text₀ tree₀ tokens text tree
promised src tokens₀ text₀ tree₀ {o} {r} {tokens} {text} {tree} is e p q s =
    record {
      answer = rw is e;
      tokens_are = rw is p;
      text_is = rw is q;
      tree_is = rw is s;
      numbers = rw is (ap numbers_of e);
      shown = f.shown;
      counts = f.counts;
      few_openings = f.few_openings;
      few_nodes = f.few_nodes;
      few_tokens = f.few_tokens;
      few_bytes = f.few_bytes;
      exactly = f.exactly;
      alike = alike;
      earliest = f.earliest;
      spellings = λ z. rw (nodes_are tree (numbers_of r).nodes (nodes_in (trial_of src (token_list src))) (f.count z) (alike z).words) (f.spellings z);
      never_12 = f.never_12;
    }
  where
    f : Follows src (token_list src) r o.text o.tree
    f = subst (λ (a : Answer). Follows src (token_list src) a o.text o.tree) (sym e) (subst (Of src) is (of_all src (length tokens₀) (length text₀) (length tree₀)))

    alike : (numbers_of r).number ≡ 0 → Alike src (numbers_of r).nodes (numbers_of r).text text tree
    alike z = record {
      count = f.count z;
      words = ap (λ (l : List ℕ). take (8 * (numbers_of r).nodes) (drop 8 l)) s ∙ f.words z tree₀;
      decoded = ap (take (numbers_of r).text) q ∙ f.decoded z text₀;
    }
