-- The front of the scanner's slice, up to Eof, is what the tree reader asks of words.
-- Assumes nothing.
use mathlib.Core.Path.{◌≡◌, refl, sym, ap, ◌∙◌, subst}
use mathlib.Core.List.{List, [], ◌∷◌, ◌++◌, append_assoc}
use Prim.Native.Nat.{ℕ, ◌+◌, ◌-◌, ◌*◌, ◌≤◌}
use native.Mathlib.Omega.{arith}
use lib.ListN.{length, take, drop, replicate, length-append}
use lib.Seq.{take_at}
use Rattle.areas.specs.Area.{area, token_area}
use Rattle.token.specs.Code.{Eof}
use Rattle.tokens.specs.Token.{Token}
use Rattle.lexer.specs.Scan.{Scan, scanned, refused, mark, token_list}
use Rattle.lexer.specs.Words.{words, answer_of, words_of, Scans}
use Rattle.lexer.specs.declared.Scanned.{Scanned}
use Rattle.std.specs.Prelude.{Result, Ok, Err}
use Rattle.source.specs.Reasons.{refusal_at}
use Rattle.source.specs.declared.refusal.Refusal.{Refusal}
use Rattle.lexer.proofs.Writing.{length_words}
use Rattle.lexer.proofs.Laws.{tokens_few, text_few, tokens_end}
use Rattle.lookahead.specs.Tokens.{eof_at, Tokens}
use Rattle.joint.proofs.Promised.{promised}

-- what is handed on: the words of the token list ts, which stand for its tokens, no more of them before Eof than bytes
pub record Handed (s : List ℕ) (count used : ℕ) (tokens : List ℕ) : Type 0 where
  pub ts : List Token
  pub bs : List ℕ
  pub is : token_list s ≡ scanned ts bs
  pub front : take (3 * (count + 1)) tokens ≡ words ts
  pub held : Tokens s (take (3 * (count + 1)) tokens)
  pub eof : eof_at (take (3 * (count + 1)) tokens) ≡ count
  pub few : count ≤ length s
  pub bytes : used ≡ length bs
  pub few_bytes : used ≤ length s

module _ {s : List ℕ} {count used : ℕ} where
  -- words of the token list that stand in front of others
  pub handed_front : (tokens rest : List ℕ) → length s ≤ 65536 → Ok (record { count = count; text = used }) ≡ answer_of (token_list s) → tokens ≡ words_of (token_list s) ++ rest → Handed s count used tokens
  unfolding eof_at
  handed_front tokens rest small answer are = go (token_list s) refl
    where
      go : (x : Scan) → token_list s ≡ x → Handed s count used tokens
      go (refused number place) q =
          let a : ◌≡◌ {A = Result Scanned Refusal} (Ok (record { count = count; text = used })) (Err (refusal_at number place)) = answer ∙ ap answer_of q in
          let z : ◌≡◌ {A = ℕ} 0 1 = cc in
          absurd (omega arith)
      go (scanned ts bs) q =
          let a : ◌≡◌ {A = Result Scanned Refusal} (Ok (record { count = count; text = used })) (Ok (record { count = length ts - 1; text = length bs })) = answer ∙ ap answer_of q in
          let m : ◌≡◌ {A = Scanned} (record { count = count; text = used }) (record { count = length ts - 1; text = length bs }) = cc in
          let c = ap (λ (x : Scanned). x.count) m in
          let u = ap (λ (x : Scanned). x.text) m in
          let l = tokens_end s ts bs q in
          let n : length ts ≡ length l.front + 1 = ap length l.last ∙ length-append l.front (mark Eof (length s) (length s) ∷ []) in
          let w : tokens ≡ words ts ++ rest = are ∙ ap (λ (x : Scan). words_of x ++ rest) q in
          let f : take (3 * (count + 1)) tokens ≡ words ts = ap (take (3 * (count + 1))) w ∙ take_at (words ts) rest (3 * (count + 1)) (omega (arith, length_words ts)) in
          record {
            ts = ts;
            bs = bs;
            is = q;
            front = f;
            held = subst (Tokens s) (sym f) (promised s ts bs small q);
            eof = omega (arith, ap length f, length_words ts);
            few = omega (arith, tokens_few s ts bs q);
            bytes = u;
            few_bytes = omega (arith, text_few s ts bs q);
          }

  -- so the slice that the scanner leaves
  pub handed : {r : Result Scanned Refusal} {tokens₀ text₀ tokens text : List ℕ} → Scans s r tokens₀ text₀ tokens text → length s ≤ 65536 → r ≡ Ok (record { count = count; text = used }) → Handed s count used tokens
  unfolding area
  handed {tokens₀ = tokens₀} {tokens = tokens} h small e =
      let zeros : List ℕ = replicate (token_area (length s) - length (words_of (token_list s))) 0 in
      handed_front tokens (zeros ++ drop (token_area (length s)) tokens₀) small (sym e ∙ h.answer)
      (h.tokens_are ∙ append_assoc (words_of (token_list s)) zeros (drop (token_area (length s)) tokens₀))
