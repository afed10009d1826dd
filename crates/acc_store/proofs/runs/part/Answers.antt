use Rattle.std.proofs.Common.{◌∙◌, sym, ap, subst, []}
use Rattle.std.specs.Map.{lookup, set_value, remove_entry}
use Rattle.std.specs.BTreeMap.{is_at as at, insert_entry}
use Rattle.acc_base.specs.Tables.{place_cmp}
use Rattle.acc_base.proofs.Places.{place_total}
use Rattle.acc_store.specs.Runs.{seen, joined, IsLaid}
use Rattle.acc_store.proofs.Laid.{seen_insert, seen_remove, seen_none, none_from, part_undone, part_found, parted_joined, parted_laid}
use Rattle.acc_store.proofs.runs.part.Goals as goal

pub returns-in-Err-clause-entries : goal.returns-in-Err-clause-entries
returns-in-Err-clause-entries c =
    let rs = c.args.runs.now.entries in
    let second = at (place_cmp c.args.at.now) in
    let run = c.requires.run in
    let none = seen_none second rs (none_from (lookup second rs) (sym c.contains_key.ensures ∙ c.if-contains_key.false)) in
    let added = ap seen c.in_ok-insert.ensures.entries ∙ seen_insert place_cmp rs c.copied.result c.new.result ∙
    (λ i. insert_entry place_cmp (seen rs) (c.copied.ensures i) (c.new.ensures.empty i)) in
    ap joined (ap seen c.remove.ensures.entries ∙ seen_remove second c.move_entries.new.runs.entries ∙ ap (remove_entry second)
    (c.in-Err.ensures.err ∙ added) ∙
    part_undone place_total c.args.at.now c.args.key.now (seen rs) run.0 c.requires.laid run.1 none)

pub returns-in-Err-clause-laid : goal.returns-in-Err-clause-laid
returns-in-Err-clause-laid c =
    let rs = c.args.runs.now.entries in
    let second = at (place_cmp c.args.at.now) in
    let run = c.requires.run in
    let none = seen_none second rs (none_from (lookup second rs) (sym c.contains_key.ensures ∙ c.if-contains_key.false)) in
    let added = ap seen c.in_ok-insert.ensures.entries ∙ seen_insert place_cmp rs c.copied.result c.new.result ∙
    (λ i. insert_entry place_cmp (seen rs) (c.copied.ensures i) (c.new.ensures.empty i)) in
    subst (IsLaid place_cmp []) (sym (ap seen c.remove.ensures.entries ∙ seen_remove second c.move_entries.new.runs.entries ∙ ap
    (remove_entry second) (c.in-Err.ensures.err ∙ added) ∙
    part_undone place_total c.args.at.now c.args.key.now (seen rs) run.0 c.requires.laid run.1 none)) c.requires.laid

pub returns-in-Ok-clause-entries : goal.returns-in-Ok-clause-entries
returns-in-Ok-clause-entries c =
    let rs = c.args.runs.now.entries in
    let first = at (place_cmp c.args.key.now) in
    let second = at (place_cmp c.args.at.now) in
    let run = c.requires.run in
    let none = seen_none second rs (none_from (lookup second rs) (sym c.contains_key.ensures ∙ c.if-contains_key.false)) in
    let added = ap seen c.in_ok-insert.ensures.entries ∙ seen_insert place_cmp rs c.copied.result c.new.result ∙
    (λ i. insert_entry place_cmp (seen rs) (c.copied.ensures i) (c.new.ensures.empty i)) in
    let moved = c.in-Ok.ensures.ok run.0 (ap (lookup first) added ∙ part_found place_total c.args.at.now c.args.key.now (seen rs) run.0
    c.requires.laid run.1 none) in
    ap joined (moved.5 ∙ ap (λ l. set_value second (set_value first l moved.0) moved.1) added) ∙
    parted_joined place_total c.args.at.now c.args.key.now (seen rs) run.0 c.requires.laid run.1 none moved.0 moved.1 moved.2 moved.3
    moved.4

pub returns-in-Ok-clause-laid : goal.returns-in-Ok-clause-laid
returns-in-Ok-clause-laid c =
    let rs = c.args.runs.now.entries in
    let first = at (place_cmp c.args.key.now) in
    let second = at (place_cmp c.args.at.now) in
    let run = c.requires.run in
    let none = seen_none second rs (none_from (lookup second rs) (sym c.contains_key.ensures ∙ c.if-contains_key.false)) in
    let added = ap seen c.in_ok-insert.ensures.entries ∙ seen_insert place_cmp rs c.copied.result c.new.result ∙
    (λ i. insert_entry place_cmp (seen rs) (c.copied.ensures i) (c.new.ensures.empty i)) in
    let moved = c.in-Ok.ensures.ok run.0 (ap (lookup first) added ∙ part_found place_total c.args.at.now c.args.key.now (seen rs) run.0
    c.requires.laid run.1 none) in
    subst (IsLaid place_cmp []) (sym (moved.5 ∙ ap (λ l. set_value second (set_value first l moved.0) moved.1) added))
    (parted_laid place_total c.args.at.now c.args.key.now (seen rs) run.0 c.requires.laid run.1 none moved.0 moved.1 moved.2 moved.3
    moved.4)
