-- Laws of report texts.
use Rattle.std.specs.Prelude.{◌≡◌, ℕ, List, [], ◌++◌}
use Rattle.ct_report.specs.declared.reports.Report.{Report}
use Rattle.ct_report.specs.Limits.{IsReport, IsReportText}
use Rattle.ct_report.specs.ReportText.{report_text}

-- two reports within the limits with one text are equal
abbrev pub OneReportOfAText : Type 0
OneReportOfAText = (k l : Report) → IsReport k → IsReport l → report_text k ≡ report_text l → k ≡ l

-- what goes on after a report text is no report text
abbrev pub NoReportTextIsAPrefix : Type 0
NoReportTextIsAPrefix = (text rest : List ℕ) → IsReportText text → IsReportText (text ++ rest) → rest ≡ []
