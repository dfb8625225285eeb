use Rattle.pcap_reader.proofs.File.{capture_read}
use Rattle.pcap_reader.proofs.laws.capture_is_read.Goals as goal

pub returns : goal.returns
returns c = capture_read
