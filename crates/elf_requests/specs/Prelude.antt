-- The words of this crate, for one import elsewhere.
pub use Rattle.elf_requests.specs.Answered.{IsRefusal, WordsAsk}
pub use Rattle.elf_requests.specs.Answers.{Answers, EndsInRefusal, WholeOrUsedUp, WroteAnswer}
pub use Rattle.elf_requests.specs.AskedTraits.{first_unknown}
pub use Rattle.elf_requests.specs.Layouts.{LaysWords}
pub use Rattle.elf_requests.specs.Lookups.{resolved_answer}
pub use Rattle.elf_requests.specs.Requests.{AsksUpTo, Runs, RunsShow, RunsTask}
