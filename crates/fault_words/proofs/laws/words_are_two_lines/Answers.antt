use Rattle.fault_words.proofs.TwoLines.{of_input, of_output, of_time}
use Rattle.fault_words.proofs.laws.words_are_two_lines.Goals as goal

pub returns : goal.returns
returns c = record { input = of_input; output = of_output; time = of_time }
