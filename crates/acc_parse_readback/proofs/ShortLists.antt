-- Lists are printed at most so many times as long as they were written, where each of their parts is.
use Rattle.std.proofs.Common.{ℕ, ◌*◌, ◌≤◌, Bool, List, [], ◌∷◌, length, map, arith, length-append}
use Rattle.std.specs.Prelude.{codes}
use Rattle.std.specs.List.{flat_map}
use Rattle.acc_grammar.specs.Readers.{AllIn, joined}
use Rattle.acc_lex.specs.declared.words.Word.{Word}
use Rattle.acc_parse_syntax.specs.Spelling.{further}
use Rattle.acc_print.specs.Lists.{listed}
use Rattle.acc_parse_readback.proofs.SaidParts.{all_parts}
use Rattle.acc_parse_readback.proofs.SaidNames.{IsHeard, AreHeard}
use Rattle.acc_parse_readback.proofs.Weights.{weight, weight-append}

module _ {T U : Type 0} (own : Bool) (text : U → List ℕ) (of : T → U) (spell : T → List Word) (Q : T → Type 0) where
  -- parts without anything between them
  pub joined_short : ((t : T) → AreHeard own (spell t) → Q t → length (text (of t)) ≤ 8 * weight (spell t)) → (ts : List T) →
      AreHeard own (joined spell ts) → AllIn Q ts → length (flat_map text (map of ts)) ≤ 8 * weight (joined spell ts)
  joined_short each [] heard h = omega arith
  joined_short each (t ∷ ts) heard h =
      let words = all_parts (IsHeard own) (spell t) (joined spell ts) heard in
      omega (
        arith,
        each t words.0 h.0,
        joined_short each ts words.1 h.1,
        length-append (text (of t)) (flat_map text (map of ts)),
        weight-append (spell t) (joined spell ts),
      )

  -- parts that each stand behind a comma
  pub further_short : ((t : T) → AreHeard own (spell t) → Q t → length (text (of t)) ≤ 8 * weight (spell t)) → (ts : List T) →
      AreHeard own (joined (further spell) ts) → AllIn Q ts →
      length (listed text (codes ", ") (map of ts)) ≤ 8 * weight (joined (further spell) ts)
  further_short each [] heard h = omega arith
  further_short each (t ∷ ts) heard h =
      let words = all_parts (IsHeard own) (further spell t) (joined (further spell) ts) heard in
      omega (
        arith,
        each t words.0.1 h.0,
        further_short each ts words.1 h.1,
        length-append (text (of t)) (listed text (codes ", ") (map of ts)),
        weight-append (spell t) (joined (further spell) ts),
      )

  -- the same, where each part is printed at most six times as long
  pub further_shorter : ((t : T) → AreHeard own (spell t) → Q t → length (text (of t)) ≤ 6 * weight (spell t)) → (ts : List T) →
      AreHeard own (joined (further spell) ts) → AllIn Q ts →
      length (listed text (codes ", ") (map of ts)) ≤ 6 * weight (joined (further spell) ts)
  further_shorter each [] heard h = omega arith
  further_shorter each (t ∷ ts) heard h =
      let words = all_parts (IsHeard own) (further spell t) (joined (further spell) ts) heard in
      omega (
        arith,
        each t words.0.1 h.0,
        further_shorter each ts words.1 h.1,
        length-append (text (of t)) (listed text (codes ", ") (map of ts)),
        weight-append (spell t) (joined (further spell) ts),
      )
