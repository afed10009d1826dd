-- How long lines and words are together, and how long the events of a script's calls are.
use Rattle.std.proofs.Common.{◌≡◌, ℕ, ◌+◌, ◌*◌, ◌≤◌, Bool, true, false, cond, List, [], ◌∷◌, ◌++◌, length, map, ap, inl, inr, arith}
use Rattle.std.proofs.Common.{length-append, MatchBool}
use Rattle.std.specs.Prelude.{◌==◌}
use Rattle.std.specs.List.{onto_first}
use Rattle.std.specs.Fmt.{signed_decimal}
use Rattle.std.proofs.lemmas.List.{length-map}
use Rattle.std.proofs.lemmas.List.Sums.{sum_by-append}
use Rattle.acc_base.specs.declared.designs.Design.{Design}
use Rattle.acc_base.specs.declared.machines.Call.{Call}
use Rattle.acc_script.specs.Pieces.{pieces, words_in, lines_of, is_skipped}
use Rattle.acc_script.specs.LineReadings.{Says, AreSaid}
use Rattle.acc_script.specs.CallLines.{SpellTape, ask_words, IsCallLine, SaysCall, IsScript}
use Rattle.acc_script.specs.BeginSizes.{begin_size, begins_size}

-- how long lists are together
abbrev lengths : List (List ℕ) → ℕ
lengths [] = 0
lengths (p ∷ ps) = length p + lengths ps

-- a byte in front makes the pieces longer by one
lengths-onto_first : (b : ℕ) (ps : List (List ℕ)) → lengths (onto_first b ps) ≡ 1 + lengths ps
lengths-onto_first b [] = omega arith
lengths-onto_first b (p ∷ ps) = omega arith

-- the pieces of a text are no longer than the text
lengths-pieces : (c : ℕ) (text : List ℕ) → lengths (pieces c text) ≤ length text
lengths-pieces c [] = omega arith
lengths-pieces c (b ∷ text) = by (b == c) (lengths-pieces c text)
  where
    by : (t : Bool) → lengths (pieces c text) ≤ length text →
        lengths (cond t ([] ∷ pieces c text) (onto_first b (pieces c text))) ≤ length (b ∷ text)
    by true ih = omega arith
    by false ih = omega (arith, lengths-onto_first b (pieces c text))

-- there are at most as many words as bytes
words_few : (ps : List (List ℕ)) → length (words_in ps) ≤ lengths ps
words_few [] = omega arith
words_few ([] ∷ ps) = omega (arith, words_few ps)
words_few ((b ∷ p) ∷ ps) = omega (arith, words_few ps)

-- a line with a call is long enough for its event
call_short : (d : Design) (line : List ℕ) (call : Call) → IsCallLine d line call → begin_size call ≤ 10 * length line
call_short d line call h =
    let rest = h.tape_words ++ ask_words call.ask in
    omega (
      arith,
      words_few (pieces 32 line),
      lengths-pieces 32 line,
      ap length h.spelled,
      length-append (map signed_decimal call.params) rest,
      length-append h.tape_words (ask_words call.ask),
      length-map call.params signed_decimal,
      tape_long h.tape_words call h.taped,
    )
  where
    tape_long : (words : List (List ℕ)) (c : Call) → SpellTape words c.tape → length c.tape ≤ length words
    tape_long words c t =
        elim t [
          | inl is ↦ omega (arith, ap length is, length-map c.tape signed_decimal)
          | inr is ↦ omega (arith, ap length is.1)
        ]

-- and so are lines with calls
says_short : (d : Design) (lines : List (List ℕ)) (calls : List Call) → AreSaid (SaysCall d) lines calls →
    begins_size calls ≤ 10 * lengths lines
says_short d [] calls h = omega (arith, ap begins_size h)
says_short d (line ∷ lines) calls h = by (is_skipped line) h (says_short d lines)
  where
    by : (b : Bool) → MatchBool b (AreSaid (SaysCall d) lines calls) (Says (SaysCall d) line (AreSaid (SaysCall d) lines) calls) →
        ((xs : List Call) → AreSaid (SaysCall d) lines xs → begins_size xs ≤ 10 * lengths lines) →
        begins_size calls ≤ 10 * lengths (line ∷ lines)
    by true g ih = omega (arith, ih calls g)
    by false g ih =
        omega (
          arith,
          ap begins_size g.parts,
          sum_by-append begin_size g.here g.behind,
          ap begins_size g.said.alone,
          call_short d line g.said.call g.said.asked,
          ih g.behind g.rest,
        )

-- the events of a script's calls take at most ten bytes for each byte of the script
pub script_short : (d : Design) (text : List ℕ) (calls : List Call) → IsScript d text calls → begins_size calls ≤ 10 * length text
script_short d text calls h = omega (arith, says_short d (lines_of text) calls h.said, lengths-pieces 10 text)
