use Rattle.pcap_reader.proofs.File.{refused_for_header, header_fault_refused, no_header}
use Rattle.pcap_reader.proofs.laws.header_fault.Goals as goal

pub returns-clause-first : goal.returns-clause-first
returns-clause-first c = λ bytes fault are_bytes. (
  refused_for_header bytes fault are_bytes,
  header_fault_refused bytes fault are_bytes,
)

pub returns-clause-no_header : goal.returns-clause-no_header
returns-clause-no_header c = no_header
