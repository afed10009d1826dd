use Rattle.std.proofs.Common.{[], refl, ◌∙◌, rules}
use Rattle.std.proofs.lemmas.List.{nil_from_length}
use Rattle.acc_commands_files.proofs.Following.{fed_on, all_fed}
use Rattle.acc_commands_files.proofs.follows.follow_pieces.Goals as goal

pub loop-rest-init : goal.loop-rest-init
loop-rest-init g c = record {
  fed = record { fed = []; all = refl; follows = c.requires };
  design = refl;
}

pub loop-rest-preserved : goal.loop-rest-preserved
loop-rest-preserved g c =
    let cut = c.split_at.ensures in
    record {
      fed =
          fed_on c.args.copy.now c.loop-rest.rest.now c.split_at.result.0.now c.split_at.result.1.now c.piece_len.result c.loop-rest.replica
          c.follow_piece.new.replica cut.front cut.back c.in_ok-follow_piece.ensures.follows c.loop-rest.invariant.fed;
      design = c.follow_piece.ensures.design ∙ c.loop-rest.invariant.design;
    }

pub returns-clause-follows : goal.returns-clause-follows
returns-clause-follows g c = all_fed c.args.copy.now c.loop-rest.rest.now c.loop-rest.replica (nil_from_length _ (search rules)) c.loop-rest.invariant.fed
