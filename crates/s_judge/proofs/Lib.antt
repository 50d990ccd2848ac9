pub mod OneJudgement
