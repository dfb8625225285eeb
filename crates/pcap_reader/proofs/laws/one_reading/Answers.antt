use Rattle.pcap_reader.proofs.File.{one_capture}
use Rattle.pcap_reader.proofs.laws.one_reading.Goals as goal

pub returns : goal.returns
returns c = one_capture
