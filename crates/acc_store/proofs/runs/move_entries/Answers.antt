use Rattle.std.proofs.Common.{◌≡◌, ◌∙◌, sym, ap, true, false}
use Rattle.std.specs.Option.{option_copied_mut}
use Rattle.std.specs.Ordering.{is_gt}
use Rattle.std.specs.Map.{keys_of, set_value}
use Rattle.std.specs.BTreeMap.{is_at as at}
use Rattle.std.proofs.lemmas.List.Elements.{recursion_from_All}
use Rattle.acc_base.specs.Tables.{place_cmp}
use Rattle.acc_base.proofs.Places.{place_total}
use Rattle.acc_store.specs.Runs.{seen}
use Rattle.acc_store.proofs.Laid.{seen_written, seen_same, written_nowhere, same_run, no_run, on_err, below_from_split}
use Rattle.acc_store.proofs.runs.move_entries.Goals as goal

pub returns-in_default-clause-ok : goal.returns-in_default-clause-ok
returns-in_default-clause-ok c = λ m h.
    absurd (no_run (at (place_cmp c.args.key.now)) c.args.runs.now.entries m h
    (sym c.get_mut.ensures.value ∙ ap option_copied_mut c.in_default.is))

pub returns-in_err-moved-clause-err : goal.returns-in_err-moved-clause-err
returns-in_err-moved-clause-err c =
    let left = c.split_off.new.self in
    on_err c.from_residual.result (seen_same (at (place_cmp c.args.key.now)) c.args.runs.now.entries (c.get_mut.follows.lender left).entries
    c.in-Some.run'.now left
    (c.get_mut.follows.holds left).0 (sym c.get_mut.ensures.value ∙ ap option_copied_mut c.in-Some.is) c.in_err-moved.ensures.err)

pub returns-in-Some-get_mut-clause-ok : goal.returns-in-Some-get_mut-clause-ok
returns-in-Some-get_mut-clause-ok c = λ m h.
    let rs = c.args.runs.now.entries in
    let first = at (place_cmp c.args.key.now) in
    let second = at (place_cmp c.args.at.now) in
    let left = c.split_off.new.self in
    let moved = c.in_ok-moved.moved in
    let same = same_run first rs m c.in-Some.run'.now h (sym c.get_mut.ensures.value ∙ ap option_copied_mut c.in-Some.is) in
    let halfway = seen_written first rs (c.get_mut.follows.lender left).entries left (c.get_mut.follows.holds left).0 in (
      left.entries,
      moved.entries,
      same ∙ c.in_ok-moved.ensures.parts,
      below_from_split place_total c.args.at.now left.entries (recursion_from_All (λ q. is_gt (place_cmp c.args.at.now q) ≡ true)
          (keys_of left.entries) c.in_ok-moved.ensures.all_below),
      recursion_from_All (λ q. is_gt (place_cmp c.args.at.now q) ≡ false) (keys_of moved.entries) c.in_ok-moved.ensures.all_from,
      seen_written second (c.get_mut.follows.lender left).entries (c.get_mut-2.follows.lender moved).entries moved
          (c.get_mut-2.follows.holds moved).0 ∙
          ap (λ l. set_value second l moved.entries) halfway,
    )

pub returns-in_default-get_mut-clause-ok : goal.returns-in_default-get_mut-clause-ok
returns-in_default-get_mut-clause-ok c = λ m h.
    let rs = c.args.runs.now.entries in
    let first = at (place_cmp c.args.key.now) in
    let second = at (place_cmp c.args.at.now) in
    let left = c.split_off.new.self in
    let moved = c.in_ok-moved.moved in
    let same = same_run first rs m c.in-Some.run'.now h (sym c.get_mut.ensures.value ∙ ap option_copied_mut c.in-Some.is) in
    let halfway = seen_written first rs (c.get_mut.follows.lender left).entries left (c.get_mut.follows.holds left).0 in (
      left.entries,
      moved.entries,
      same ∙ c.in_ok-moved.ensures.parts,
      below_from_split place_total c.args.at.now left.entries (recursion_from_All (λ q. is_gt (place_cmp c.args.at.now q) ≡ true)
          (keys_of left.entries) c.in_ok-moved.ensures.all_below),
      recursion_from_All (λ q. is_gt (place_cmp c.args.at.now q) ≡ false) (keys_of moved.entries) c.in_ok-moved.ensures.all_from,
      ap (λ x. seen x.entries) c.get_mut-2.follows.holds-at-none ∙
          sym (written_nowhere second (c.get_mut.follows.lender left).entries moved.entries
          (sym c.get_mut-2.ensures.value ∙ ap option_copied_mut c.in_default-get_mut.is)) ∙
          ap (λ l. set_value second l moved.entries) halfway,
    )
