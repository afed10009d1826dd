use Rattle.std.proofs.Common.{rules, ◌≡◌, ◌≤◌, ◌+◌, ◌-◌, ◌++◌, ◌∙◌, ℕ, List, [], ◌∷◌, length, None, Some, refl, sym, ap, arith}
use Rattle.std.proofs.Common.{length-append, append_assoc}
use Rattle.std.specs.Prelude.{map, replicate, take, vec_len}
use Rattle.std.specs.List.{range_with_len}
use Rattle.std.proofs.lemmas.List.{length-replicate, take_all}
use Rattle.std.proofs.lemmas.List.FromFn.{length-range_with_len, length-map-range_with_len, map-range_with_len_more}
use Rattle.acc_settling.proofs.Working.{places_more}
use Rattle.acc_settling.proofs.finishing.worked_board.Goals as goal

pub loop-at-preserved : goal.loop-at-preserved
loop-at-preserved c =
    let at = c.loop-at.at in
    let before = c.args.before in
    let inv = c.loop-at.invariant in
    let long : vec_len c.loop-at.board.places ≡ length c.loop-at.board.places.items = search rules in
    let number : c.len-number.result ≡ before + 1 + at = omega (
      arith,
      c.len-number.ensures,
      c.in_ok-push.ensures.len,
      long,
      ap length inv.places,
      length-append (replicate before 0) (range_with_len 1 at),
      length-replicate {A = ℕ} before 0,
      length-range_with_len 1 at,
    ) in
    record {
      numbers =
          c.in_ok-push-2.ensures.items ∙ (λ i. inv.numbers i ++ Some (number i) ∷ [])
          ∙ sym (map-range_with_len_more (λ (n : ℕ). Some n) (before + 1) at (before + 1 + at) refl);
      places =
          c.in_ok-push.ensures.items ∙ ap (λ (l : List ℕ). l ++ (at + 1) ∷ []) inv.places
          ∙ append_assoc (replicate before 0) (range_with_len 1 at) ((at + 1) ∷ [])
          ∙ ap (λ (l : List ℕ). replicate before 0 ++ l) (places_more at);
      text = inv.text;
    }

pub returns-clause-numbers : goal.returns-clause-numbers
returns-clause-numbers c =
    let inv = c.loop-at.invariant in
    let items = c.loop-at.board.numbers.items in
    let done : c.loop-at.at ≡ c.args.count = omega (arith, c.loop-at-test.false, c.loop-at.auto.at-end) in
    let long : vec_len c.loop-at.board.numbers ≡ length items = search rules in
    let many = ap length inv.numbers ∙ length-map-range_with_len (λ (n : ℕ). Some n) (c.args.before + 1) c.loop-at.at in
    let few : length items ≤ c.args.calls = omega (arith, many, done, c.requires) in
    let left : vec_len c.loop-at.board.numbers ≡ c.args.count = omega (arith, long, many, done) in
    let some = λ (n : ℕ). map (λ (x : ℕ). Some x) (range_with_len (c.args.before + 1) n) in
    let front : take c.args.calls items ≡ some c.args.count = take_all c.args.calls items few ∙ inv.numbers ∙ ap some done in
    c.in_ok-resize.ensures.items ∙ (λ i. front i ++ replicate (c.args.calls - left i) None)
