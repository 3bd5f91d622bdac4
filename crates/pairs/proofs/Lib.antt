mod PairRows
