use Rattle.ct_text.proofs.Decimals.{decimal_from_natural, natural_from_decimal}
use Rattle.ct_text.proofs.laws.numbers_are_decimal.Goals as goal

pub returns : goal.returns
returns c text limit number small = (decimal_from_natural text limit number small, natural_from_decimal text limit number small)
