use Rattle.ct_text.proofs.Decimals.{signed_decimal_from_signed, signed_from_signed_decimal}
use Rattle.ct_text.proofs.laws.signed_numbers_are_decimal.Goals as goal

pub returns : goal.returns
returns c text limit number small = (signed_decimal_from_signed text limit number small, signed_from_signed_decimal text limit number small)
