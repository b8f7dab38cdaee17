-- What is written of a made input.
use Rattle.std.specs.Prelude.{ℕ, ◌≡◌, false, List}
use Rattle.ct_vectors.specs.declared.limits.TheConstants.{MOVE_LIMIT}
use Rattle.ct_report.specs.declared.reports.Report.{Report}
use Rattle.ct_legal.specs.Cases.{Case, plain_case}
use Rattle.ct_legal.specs.Legal.{IsLegalAnswered}
use Rattle.ct_answer.specs.declared.extent.Extent.{Extent}
use Rattle.ct_answer.specs.Extents.{last_grade, IsExtent}
use Rattle.ct_gen.specs.Made.{made_instance, made_script}
use Rattle.ct_gen.specs.Tallies.{lines_of, tally_of, summary_of}
use Rattle.ct_gen.specs.SummaryText.{summary_text}

-- the made instance, with the greatest limit on the number of moves; neither walks nor levels are asked for
abbrev pub made_case : ℕ → Case
made_case number = plain_case (made_instance number) MOVE_LIMIT false false

-- the text of the summary of the report that is legal for the made script, with how far the moves come that it works for
pub record IsSummaryOf (number : ℕ) (text : List ℕ) : Type 0 where
  pub report : Report
  pub legal : IsLegalAnswered (made_case number) (made_script number) report
  pub reached : Extent
  pub extent : IsExtent (made_instance number) MOVE_LIMIT (last_grade (made_case number) (made_script number)) reached
  pub written : text ≡ summary_text (summary_of number (tally_of (lines_of report)) reached.moves reached.level)
