-- A printed design is read as itself.
use Rattle.std.proofs.Common.{◌≡◌, ℕ, List, [], ◌++◌, sym, ap, ◌∙◌}
use Rattle.acc_base.specs.declared.designs.Design.{Design}
use Rattle.acc_base.specs.declared.limits.Limit.{Limit}
use Rattle.acc_parse_syntax.specs.Spelling.{spelled_design}
use Rattle.acc_parse.specs.Sizes.{size_faults}
use Rattle.acc_print.specs.Designs.{printed}
use Rattle.acc_parse.specs.Texts.{IsDesignText, past_limits}
use Rattle.acc_parse_readback.specs.TypeTrees.{tree_of}
use Rattle.acc_parse_readback.specs.PrintableTypes.{IsSaid}
use Rattle.acc_parse_readback.proofs.DesignParts.{printed_is_lexed}
use Rattle.acc_parse_readback.proofs.MeantDesigns.{tree_means_design, tree_has_no_sizes}
use Rattle.acc_parse_readback.proofs.NamedDesigns.{tree_names_well}
use Rattle.acc_parse_readback.proofs.LimitedDesigns.{tree_passes_no_limit}
use Rattle.acc_parse_readback.proofs.SaidDesigns.{parsed_is_said}
use Rattle.acc_parse_readback.proofs.OwnWordsSaid.{tree_is_spelled}

no_limits : (d : Design) → IsSaid d → past_limits (tree_of d) ≡ []
no_limits d h =
    ap (λ (faults : List (ℕ × Limit)). faults ++ size_faults (tree_of d)) (tree_passes_no_limit d h) ∙ tree_has_no_sizes d h

pub reads_back : (d : Design) → IsSaid d → IsDesignText (printed d) d
reads_back d h = record {
  of = record { words = spelled_design (tree_of d); lexed = printed_is_lexed d h; tree = tree_of d; spelled = tree_is_spelled d h };
  allowed = record { names = tree_names_well d h; limits = no_limits d h };
  means = sym (tree_means_design d h);
}

-- so each design that some text stands for is
pub text_reads_back : (source : List ℕ) (d : Design) → IsDesignText source d → IsDesignText (printed d) d
text_reads_back source d is = reads_back d (parsed_is_said source d is)
