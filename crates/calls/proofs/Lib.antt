pub mod ReplyNumbersLaws
