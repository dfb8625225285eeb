use Rattle.program.proofs.response.read_sums.Goals as goal

pub returns-in-Some-clause-fault : goal.returns-in-Some-clause-fault
returns-in-Some-clause-fault g c = rw c.in-Some.is (record {
  after = g.N.Feed.state c.read_input.new.feed;
  fault_is = c.in-Err.ensures.fault;
  unread = c.in-Err.ensures.whole;
  counts_fault = c.in-Err.ensures.counts_fault;
})
