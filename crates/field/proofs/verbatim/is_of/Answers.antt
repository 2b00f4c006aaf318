-- `field::verbatim::is_of` meets its contract: in each arm the class is known, and the tests are the definition's.
use mathlib.Core.Path.{ap, sym}
use Rattle.field.specs.Byte.{is_of}
use Rattle.field.specs.declared.Class.{Class}
use Rattle.field.proofs.verbatim.is_of.Goals as goal

pub returns-in-Printable : goal.returns-in-Printable
returns-in-Printable c = sym (ap (λ (k : Class). is_of k c.args.b) c.in-Printable.is)

pub returns-in-Space : goal.returns-in-Space
returns-in-Space c = sym (ap (λ (k : Class). is_of k c.args.b) c.in-Space.is)

pub returns-in-Digit : goal.returns-in-Digit
returns-in-Digit c = sym (ap (λ (k : Class). is_of k c.args.b) c.in-Digit.is)

pub returns-in-Hex : goal.returns-in-Hex
returns-in-Hex c = sym (ap (λ (k : Class). is_of k c.args.b) c.in-Hex.is)
