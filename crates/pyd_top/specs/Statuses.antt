-- The status of each conclusion, and its number.
use Rattle.std.specs.Prelude.{ℕ}
use Rattle.pyd_top.specs.declared.status.Status.{Status}
use Rattle.pyd_top.specs.declared.status.Status.TheVariants as status
use Rattle.pyd_top.specs.declared.conclusion.Conclusion.{Conclusion}
use Rattle.pyd_top.specs.declared.conclusion.Conclusion.TheVariants as conclusion

-- the status of a conclusion
abbrev pub status_of : Conclusion → Status
status_of conclusion.Done = status.Done
status_of (conclusion.Raised kind line) = status.Raised
status_of (conclusion.Limit l line) = status.Limit
status_of conclusion.Words = status.Words
status_of conclusion.TooLong = status.Refused
status_of (conclusion.Lex f) = status.Refused
status_of (conclusion.Parse f) = status.Refused
status_of (conclusion.Scope r) = status.Refused
status_of conclusion.ReadFault = status.ReadFault
status_of conclusion.SinkFault = status.SinkFault
status_of conclusion.NoMemory = status.NoMemory

-- the number with which the process ends
abbrev pub code : Status → ℕ
code status.Done = 0
code status.Raised = 1
code status.Words = 2
code status.Refused = 3
code status.Limit = 4
code status.ReadFault = 5
code status.SinkFault = 6
code status.NoMemory = 7
code status.No = 8
