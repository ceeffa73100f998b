pub mod RestYears
