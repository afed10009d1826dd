-- The design that the shipped booking text stands for.
use Rattle.acc_base.specs.declared.designs.Design.{Design}
use Rattle.acc_shipped.specs.Texts.{design_in}
use Rattle.acc_booking.specs.declared.texts.TheConstants.{SOURCE}

abbrev pub booking_design : Design
booking_design = design_in SOURCE.now
