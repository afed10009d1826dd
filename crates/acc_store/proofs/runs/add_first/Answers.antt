use Rattle.std.proofs.Common.{◌∙◌, sym, ap, subst, [], ◌∷◌}
use Rattle.std.specs.Ordering.{is_gt}
use Rattle.acc_base.specs.Tables.{place_cmp}
use Rattle.acc_base.proofs.Places.{place_total}
use Rattle.acc_store.specs.Runs.{seen, joined, IsLaid}
use Rattle.acc_store.proofs.Firsts.{first_least}
use Rattle.acc_store.proofs.Laid.{first_added}
use Rattle.acc_store.proofs.runs.add_first.Goals as goal

pub returns-clause-entries : goal.returns-clause-entries
returns-clause-entries c =
    let e = first_added place_total c.copied.result c.args.place.now c.args.runs.now.entries c.insert.new.self.entries c.new.result
    (ap (λ f. is_gt (place_cmp f c.args.place.now)) (c.copied.ensures ∙ c.first-first.ensures) ∙ first_least c.args.place.now)
    c.requires.past c.new.ensures.empty c.in_ok-insert.ensures.entries in
    ap joined e

pub returns-clause-laid : goal.returns-clause-laid
returns-clause-laid c =
    let e = first_added place_total c.copied.result c.args.place.now c.args.runs.now.entries c.insert.new.self.entries c.new.result
    (ap (λ f. is_gt (place_cmp f c.args.place.now)) (c.copied.ensures ∙ c.first-first.ensures) ∙ first_least c.args.place.now)
    c.requires.past c.new.ensures.empty c.in_ok-insert.ensures.entries in
    subst (IsLaid place_cmp []) (sym e) (tt, tt, c.requires.laid)

pub returns-clause-run : goal.returns-clause-run
returns-clause-run c =
    let least = ap (λ f. is_gt (place_cmp f c.args.place.now)) c.first-first.ensures ∙ first_least c.args.place.now in
    let e = first_added place_total c.copied.result c.args.place.now c.args.runs.now.entries c.insert.new.self.entries c.new.result
    (ap (λ f. is_gt (place_cmp f c.args.place.now)) c.copied.ensures ∙ least) c.requires.past c.new.ensures.empty
    c.in_ok-insert.ensures.entries in (
      [],
      record {
        front = [];
        back = seen c.args.runs.now.entries;
        parts = e ∙ ap (λ k. (k, []) ∷ seen c.args.runs.now.entries) c.copied.ensures;
        before = tt;
        from = least;
        past = c.requires.past;
      },
    )
