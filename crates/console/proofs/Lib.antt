mod Examples
mod OutputLaws
mod SayLaws
mod RespondLaws
mod CommandLaws
