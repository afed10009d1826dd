use Rattle.std.proofs.Common.{◌∙◌, subst, sym, [], List}
use Rattle.std.specs.Prelude.{All}
use Rattle.std.proofs.lemmas.List.Elements.{All-from_recursion}
use Rattle.acc_base.specs.declared.designs.Entry.{Entry}
use Rattle.acc_oblig_places.specs.Rooms.{IsSmallEntry}
use Rattle.acc_advise.proofs.Nothing.{tried_free}
use Rattle.acc_advise.proofs.advising.tried_free.Goals as goal

pub tried-requires-clause-entries : goal.tried-requires-clause-entries
tried-requires-clause-entries g c =
    subst (λ (es : List Entry). All IsSmallEntry es) (sym (c.as_slice.ensures ∙ c.new-none.ensures)) (All-from_recursion IsSmallEntry [] tt)

pub returns : goal.returns
returns g c = tried_free c.args.case.now c.as_slice.result.now c.tried.result (c.as_slice.ensures ∙ c.new-none.ensures) c.tried.ensures
