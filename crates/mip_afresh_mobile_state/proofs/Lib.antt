mod RowLaws
mod TimerLaws
mod TrialLaws
mod TurnLaws
