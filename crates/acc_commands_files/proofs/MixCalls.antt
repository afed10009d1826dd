-- The script of a mix has as many calls as the mix has transactions.
use Rattle.std.proofs.Common.{◌≡◌, ℕ, zero, suc, ◌+◌, Bool, true, false, cond, List, [], ◌∷◌, ◌++◌, length, refl, sym, ap, subst, ◌∙◌, arith}
use Rattle.std.proofs.Common.{append_assoc}
use Rattle.std.proofs.lemmas.List.{length-append}
use Rattle.std.specs.Prelude.{◌==◌, ◌&&◌, not, MatchBool, All}
use Rattle.std.specs.List.{onto_first}
use Rattle.acc_base.specs.declared.designs.Design.{Design}
use Rattle.acc_base.specs.declared.machines.Call.{Call}
use Rattle.acc_commands_inputs.specs.declared.scales.Mix.{Mix}
use Rattle.acc_commands_inputs.specs.Scales.{is_mix}
use Rattle.acc_script.specs.Pieces.{lines_of, is_skipped}
use Rattle.acc_script.specs.LineReadings.{Says, AreSaid}
use Rattle.acc_script.specs.CallLines.{SaysCall, IsScript}
use Rattle.acc_script.specs.OrderLines.{IsPlace}
use Rattle.rand_pcg.specs.Lcg.{Lcg}
use Rattle.tpcc_gen.specs.Draws.{each, words_from}
use Rattle.tpcc_gen.specs.Mixes.{mix, mix_text, place_line}
use Rattle.acc_commands_files.specs.Workloads.{mix_said}
use Rattle.acc_commands_files.proofs.MixLines.{is_whole, IsOneLine, place_one}

-- a line, and what stands behind it
cut_line : (body rest : List ℕ) → is_whole body ≡ true → lines_of (body ++ 10 ∷ rest) ≡ body ∷ lines_of rest
cut_line [] rest whole = refl
cut_line (b ∷ body) rest whole = by (b == 10) whole (cut_line body rest)
  where
    by : (feed : Bool) → (not feed && is_whole body) ≡ true → (is_whole body ≡ true → lines_of (body ++ 10 ∷ rest) ≡ body ∷ lines_of rest)
        → cond feed ([] ∷ lines_of (body ++ 10 ∷ rest)) (onto_first b (lines_of (body ++ 10 ∷ rest))) ≡ (b ∷ body) ∷ lines_of rest
    by true h ih = absurd cc
    by false h ih = ap (onto_first b) (ih h)

module _ (d : Design) (draw : ℕ → Lcg → List ℕ × Lcg) (one : (k : ℕ) (g : Lcg) → IsOneLine (draw k g).0) where
  calls_count :
      (n k : ℕ) (g : Lcg) (calls : List Call) → AreSaid (SaysCall d) (lines_of (each draw n k g).0) calls → length calls ≡ n
  unfolding each
  calls_count zero k g calls said = ap length said
  calls_count (suc n) k g calls said =
      let here = one k g in
      let behind = (each draw n (k + 1) (draw k g).1).0 in
      let cut : lines_of ((draw k g).0 ++ behind) ≡ here.body ∷ lines_of behind =
      ap (λ (text : List ℕ). lines_of (text ++ behind)) here.is ∙ ap lines_of (append_assoc here.body (10 ∷ []) behind)
      ∙ cut_line here.body behind here.whole in
      let told : AreSaid (SaysCall d) (here.body ∷ lines_of behind) calls =
      subst (λ (lines : List (List ℕ)). AreSaid (SaysCall d) lines calls) cut said in
      let says : Says (SaysCall d) here.body (AreSaid (SaysCall d) (lines_of behind)) calls =
      subst (λ (b : Bool). MatchBool b (AreSaid (SaysCall d) (lines_of behind) calls)
      (Says (SaysCall d) here.body (AreSaid (SaysCall d) (lines_of behind)) calls)) here.counts told in
      let rest = calls_count n (k + 1) (draw k g).1 says.behind says.rest in
      let all : length calls ≡ length (says.here ++ says.behind) = ap length says.parts in
      let one_call : length says.here ≡ 1 = ap length says.said.alone in
      omega (arith, all, length-append says.here says.behind, one_call, rest)

mix_calls :
    (d : Design) (warehouses items customers count start : ℕ) (calls : List Call)
    → IsScript d (mix_text warehouses items customers count start) calls → length calls ≡ count
unfolding mix
mix_calls d warehouses items customers count start calls script =
    calls_count d (place_line warehouses items customers) (place_one warehouses items customers) count 1 (words_from start) calls
    script.said

said_text : (m : Mix) → is_mix m ≡ true
    → mix_said m ≡ mix_text m.scale.warehouses m.scale.items m.scale.customers m.count m.start
said_text m fit = rw fit refl

-- so numbers of its places are numbers of its calls' places
pub places_of_calls :
    (m : Mix) (numbers : List ℕ) → is_mix m ≡ true → All (IsPlace m.count) numbers
    → (d : Design) (calls : List Call) → IsScript d (mix_said m) calls → All (IsPlace (length calls)) numbers
places_of_calls m numbers fit all d calls script =
    let count =
    mix_calls d m.scale.warehouses m.scale.items m.scale.customers m.count m.start calls
    (subst (λ (text : List ℕ). IsScript d text calls) (said_text m fit) script) in
    subst (λ (n : ℕ). All (IsPlace n) numbers) (sym count) all
